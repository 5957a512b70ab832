-- PUTs and GETs one after the other: one more, one list after another, and those of a device that is a part of another.
-- Assumes nothing.
use mathlib.Core.Path.{◌≡◌, ◌∙◌, refl, sym, ap}
use mathlib.Core.List.{List, [], ◌∷◌, ◌++◌}
use Prim.Native.Nat.{ℕ, zero, suc}
use Rattle.handler.specs.declared.Got.{Got}
use Rattle.handler.specs.declared.Done.{Done}
use Rattle.handler.specs.Answer.{Answer, answer, seen}
use Rattle.handler.specs.InOrder.{and_then, puts_of, gets_of}

-- one more, by what it says and leaves
module _ {D : Type 0} where
  pub puts_none : (put : ℕ → D → Answer Done D) (d : D) → puts_of put [] d ≡ answer [] d
  unfolding puts_of
  puts_none put d = refl

  pub puts_one : (put : ℕ → D → Answer Done D) (byte : ℕ) (bytes : List ℕ) (d next : D) (says : Done)
      → put byte d ≡ answer says next → puts_of put (byte ∷ bytes) d ≡ and_then says (puts_of put bytes next)
  unfolding puts_of
  puts_one put byte bytes d next says e = ap (λ (x : Answer Done D). and_then x.says (puts_of put bytes x.leaves)) e

  pub gets_none : (get : D → Answer Got D) (d : D) → gets_of get 0 d ≡ answer [] d
  unfolding gets_of
  gets_none get d = refl

  pub gets_one : (get : D → Answer Got D) (n : ℕ) (d next : D) (says : Got)
      → get d ≡ answer says next → gets_of get (suc n) d ≡ and_then says (gets_of get n next)
  unfolding gets_of
  gets_one get n d next says e = ap (λ (x : Answer Got D). and_then x.says (gets_of get n x.leaves)) e

-- bytes after others
pub puts_more : {D : Type 0} (put : ℕ → D → Answer Done D) (xs ys : List ℕ) (d : D)
    → puts_of put (xs ++ ys) d ≡ answer ((puts_of put xs d).says ++ (puts_of put ys (puts_of put xs d).leaves).says) (puts_of put ys (puts_of put xs d).leaves).leaves
unfolding puts_of
puts_more put [] ys d = refl
puts_more put (x ∷ xs) ys d = ap (and_then (put x d).says) (puts_more put xs ys (put x d).leaves)

-- a part of a device: taken out, and put back
pub record PartOf (D E : Type 0) (get : E → D) (put : E → D → E) : Type 0 where
  pub got : (s : E) (d : D) → get (put s d) ≡ d
  pub again : (s : E) (d e : D) → put (put s d) e ≡ put s e
  pub same : (s : E) → put s (get s) ≡ s

module _ {D E : Type 0} (get : E → D) (put : E → D → E) (part : PartOf D E get put) where
  pub puts_part : (act : ℕ → D → Answer Done D) (whole : ℕ → E → Answer Done E)
      → ((byte : ℕ) (s : E) → whole byte s ≡ seen (put s) (act byte (get s)))
      → (bytes : List ℕ) (s : E) → puts_of whole bytes s ≡ seen (put s) (puts_of act bytes (get s))
  unfolding puts_of
  puts_part act whole e [] s = ap (answer []) (sym (part.same s))
  puts_part act whole e (byte ∷ bytes) s =
      let x = act byte (get s) in
      ap (λ (y : Answer Done E). and_then y.says (puts_of whole bytes y.leaves)) (e byte s)
      ∙ ap (and_then x.says) (puts_part act whole e bytes (put s x.leaves))
      ∙ ap (λ (d : D). and_then x.says (seen (put (put s x.leaves)) (puts_of act bytes d))) (part.got s x.leaves)
      ∙ ap (λ (d : E). and_then x.says (answer (puts_of act bytes x.leaves).says d)) (part.again s x.leaves (puts_of act bytes x.leaves).leaves)

  pub gets_part : (act : D → Answer Got D) (whole : E → Answer Got E)
      → ((s : E) → whole s ≡ seen (put s) (act (get s)))
      → (n : ℕ) (s : E) → gets_of whole n s ≡ seen (put s) (gets_of act n (get s))
  unfolding gets_of
  gets_part act whole e zero s = ap (answer []) (sym (part.same s))
  gets_part act whole e (suc n) s =
      let x = act (get s) in
      ap (λ (y : Answer Got E). and_then y.says (gets_of whole n y.leaves)) (e s)
      ∙ ap (and_then x.says) (gets_part act whole e n (put s x.leaves))
      ∙ ap (λ (d : D). and_then x.says (seen (put (put s x.leaves)) (gets_of act n d))) (part.got s x.leaves)
      ∙ ap (λ (d : E). and_then x.says (answer (gets_of act n x.leaves).says d)) (part.again s x.leaves (gets_of act n x.leaves).leaves)
