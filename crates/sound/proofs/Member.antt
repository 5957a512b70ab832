-- What stands in a list.
-- Assumes nothing.
use mathlib.Core.Path.{◌≡◌, refl}
use mathlib.Core.List.{List, [], ◌∷◌, ◌++◌}
use Prim.Native.Nat.{◌≤◌}
use native.Mathlib.Omega.{arith}
use lib.ListN.{length}

pub data In {A : Type 0} (x : A) : List A → Type 0 where
  here : {xs : List A} → In x (x ∷ xs)
  later : {y : A} {xs : List A} → In x xs → In x (y ∷ xs)

module _ {A : Type 0} {x : A} where
  pub in_left : (xs ys : List A) → In x xs → In x (xs ++ ys)
  in_left (y ∷ xs) ys here = here
  in_left (y ∷ xs) ys (later h) = later (in_left xs ys h)
  in_left [] ys h = elim h [ ]

  pub in_right : (xs ys : List A) → In x ys → In x (xs ++ ys)
  in_right [] ys h = h
  in_right (y ∷ xs) ys h = later (in_right xs ys h)

  -- at the head or behind it, and never in an empty list
  pub in_some : {xs : List A} → In x xs → 1 ≤ length xs
  in_some here = omega arith
  in_some (later h) = omega arith

  pub by_in : {P : Type 0} {y : A} {xs : List A} → In x (y ∷ xs) → (x ≡ y → P) → (In x xs → P) → P
  by_in here p q = p refl
  by_in (later h) p q = q h
