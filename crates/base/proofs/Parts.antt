-- Parts of a list at a place and of a length, and stores there: what is read where nothing was stored is as it was, what is read where
-- it was stored is what was stored, and a part that was lent comes back as a store.
-- Assumes nothing.
use mathlib.Core.Path.{◌≡◌, ◌∙◌, refl, sym, ap}
use mathlib.Core.List.{List, [], ◌∷◌, ◌++◌, append_assoc}
use Prim.Native.Nat.{ℕ, suc, ◌+◌, ◌-◌, ◌≤◌, ◌<◌}
use native.Mathlib.Nat.{add-zero, zero-add, add-suc, suc-add}
use native.Mathlib.Omega.{arith}
use lib.ListN.{length, take, drop, set, length-append, length-drop, length-set, take-append-drop}
use lib.Seq.{sets, sets-eq, set_out, take_at, drop_at, drop-drop, length-take-le, length-sets, take-add, drop-set-lt, drop-set-add, take-set-le, take-set-lt, set-append_left, set_comm, set-set}
use Rattle.base.specs.Parts.{part, Apart, before, behind}

pub cat : {A : Type 0} {a b c d : List A} → a ≡ b → c ≡ d → a ++ c ≡ b ++ d
cat p q = rw (p, q)

-- stores before or behind what is kept
pub drop_behind : (ys xs : List ℕ) (p q : ℕ) → q + length ys ≤ p → drop p (sets xs q ys) ≡ drop p xs
drop_behind [] xs p q h = refl
drop_behind (y ∷ ys) xs p q h =
    drop_behind ys (set xs q y) p (suc q) (omega (arith, add-suc q (length ys), suc-add q (length ys)))
    ∙ drop-set-lt p xs q y (omega (arith, add-suc q (length ys)))

pub take_before : (ys xs : List ℕ) (p q : ℕ) → p ≤ q → take p (sets xs q ys) ≡ take p xs
take_before [] xs p q h = refl
take_before (y ∷ ys) xs p q h = take_before ys (set xs q y) p (suc q) (omega arith) ∙ take-set-le p xs q y h

-- stores into what is kept
pub drop_into : (ys xs : List ℕ) (p i : ℕ) → drop p (sets xs (p + i) ys) ≡ sets (drop p xs) i ys
drop_into [] xs p i = refl
drop_into (y ∷ ys) xs p i =
    ap (λ (k : ℕ). drop p (sets (set xs (p + i) y) k ys)) (sym (add-suc p i))
    ∙ drop_into ys (set xs (p + i) y) p (suc i)
    ∙ ap (λ (l : List ℕ). sets l (suc i) ys) (drop-set-add p xs i y)

pub take_into : (ys xs : List ℕ) (n i : ℕ) → i + length ys ≤ n → take n (sets xs i ys) ≡ sets (take n xs) i ys
take_into [] xs n i h = refl
take_into (y ∷ ys) xs n i h =
    take_into ys (set xs i y) n (suc i) (omega (arith, add-suc i (length ys), suc-add i (length ys)))
    ∙ ap (λ (l : List ℕ). sets l (suc i) ys) (take-set-lt n xs i y (omega (arith, add-suc i (length ys))))

pub part_into : (p n i : ℕ) (ys xs : List ℕ) → i + length ys ≤ n → part p n (sets xs (p + i) ys) ≡ sets (part p n xs) i ys
part_into p n i ys xs h = ap (take n) (drop_into ys xs p i) ∙ take_into ys (drop p xs) n i h

-- a part is as it was after a store elsewhere
pub part_other : (p n q : ℕ) (ys xs : List ℕ) → Apart p n q (length ys) → part p n (sets xs q ys) ≡ part p n xs
part_other p n q ys xs (behind h) = ap (take n) (drop_behind ys xs p q h)
part_other p n q ys xs (before h) =
    let e : p + (q - p) ≡ q = omega arith in
    ap (λ (k : ℕ). part p n (sets xs k ys)) (sym e) ∙ ap (take n) (drop_into ys xs p (q - p)) ∙ take_before ys (drop p xs) n (q - p) (omega arith)

-- and what was stored after a store there
pub part_same : (p n : ℕ) (ys xs : List ℕ) → length ys ≡ n → p + n ≤ length xs → part p n (sets xs p ys) ≡ ys
part_same p n ys xs e h =
    let t = length-take-le p xs (omega arith) in
    let rest = drop (p + length ys) xs in
    ap (part p n) (sets-eq ys xs p (omega arith) ∙ append_assoc (take p xs) ys rest)
    ∙ ap (take n) (drop_at (take p xs) (ys ++ rest) p t)
    ∙ take_at ys rest n e

-- stores at places apart may change their order, and of two at one place the second stays
set_apart : (ys xs : List ℕ) (i j a : ℕ) → Apart i 1 j (length ys) → set (sets xs j ys) i a ≡ sets (set xs i a) j ys
set_apart [] xs i j a h = refl
set_apart (y ∷ ys) xs i j a (before h) =
    set_apart ys (set xs j y) i (suc j) a (before (omega arith)) ∙ ap (λ (l : List ℕ). sets l (suc j) ys) (set_comm xs j i y a (λ e. omega arith))
set_apart (y ∷ ys) xs i j a (behind h) =
    set_apart ys (set xs j y) i (suc j) a (behind (omega (arith, add-suc j (length ys), suc-add j (length ys))))
    ∙ ap (λ (l : List ℕ). sets l (suc j) ys) (set_comm xs j i y a (λ e. omega (arith, add-suc j (length ys))))

pub sets_apart : (p q : ℕ) (ys zs xs : List ℕ) → Apart q (length zs) p (length ys) → sets (sets xs p ys) q zs ≡ sets (sets xs q zs) p ys
sets_apart p q ys [] xs h = refl
sets_apart p q ys (z ∷ zs) xs (before h) =
    ap (λ (l : List ℕ). sets l (suc q) zs) (set_apart ys xs q p z (before (omega (arith, add-suc q (length zs)))))
    ∙ sets_apart p (suc q) ys zs (set xs q z) (before (omega (arith, add-suc q (length zs), suc-add q (length zs))))
sets_apart p q ys (z ∷ zs) xs (behind h) =
    ap (λ (l : List ℕ). sets l (suc q) zs) (set_apart ys xs q p z (behind h)) ∙ sets_apart p (suc q) ys zs (set xs q z) (behind (omega arith))

pub sets_again : (p : ℕ) (ys zs xs : List ℕ) → length ys ≡ length zs → sets (sets xs p ys) p zs ≡ sets xs p zs
sets_again p [] [] xs e = refl
sets_again p [] (z ∷ zs) xs e = absurd (omega arith)
sets_again p (y ∷ ys) [] xs e = absurd (omega arith)
sets_again p (y ∷ ys) (z ∷ zs) xs e =
    ap (λ (l : List ℕ). sets l (suc p) zs) (set_apart ys (set xs p y) p (suc p) z (before (omega arith)) ∙ ap (λ (l : List ℕ). sets l (suc p) ys) (set-set xs p y z))
    ∙ sets_again (suc p) ys zs (set xs p z) (omega arith)

-- a run of stores after another
pub sets_more : (l xs ys : List ℕ) (i : ℕ) → sets (sets l i xs) (i + length xs) ys ≡ sets l i (xs ++ ys)
sets_more l [] ys i = rw (add-zero i)
sets_more l (x ∷ xs) ys i = rw (add-suc i (length xs), ← suc-add i (length xs)) (sets_more (set l i x) xs ys (suc i))

-- stores into the first of two lists
pub sets_left : (ys xs r : List ℕ) (n : ℕ) → n + length ys ≤ length xs → sets (xs ++ r) n ys ≡ sets xs n ys ++ r
sets_left [] xs r n h = refl
sets_left (y ∷ ys) xs r n h =
    let l : n < length xs = omega (arith, add-suc n (length ys)) in
    let m : suc n + length ys ≤ length (set xs n y) = rw (length-set xs n y, suc-add n (length ys), ← add-suc n (length ys)) h in
    rw (set-append_left xs r n y l) (sets_left ys (set xs n y) r (suc n) m)

-- and into the second
sets_cons : (zs l : List ℕ) (x k : ℕ) → sets (x ∷ l) (suc k) zs ≡ x ∷ sets l k zs
sets_cons [] l x k = refl
sets_cons (z ∷ zs) l x k = sets_cons zs (set l k z) x (suc k)

pub sets_right : (xs ys zs : List ℕ) (i : ℕ) → sets (xs ++ ys) (length xs + i) zs ≡ xs ++ sets ys i zs
sets_right [] ys zs i = rw (zero-add i)
sets_right (x ∷ xs) ys zs i = rw (suc-add (length xs) i) (sets_cons zs (xs ++ ys) x (length xs + i) ∙ ap (λ (l : List ℕ). x ∷ l) (sets_right xs ys zs i))

-- as many stored over others
pub sets_over : (pre xs ys post : List ℕ) (n : ℕ) → length pre ≡ n → length xs ≡ length ys → sets (pre ++ (xs ++ post)) n ys ≡ pre ++ (ys ++ post)
sets_over pre xs ys post n e f =
    let h : n + length ys ≤ length (pre ++ (xs ++ post)) = simp length-append (omega arith) in
    let t = take_at pre (xs ++ post) n e in
    let d : drop (n + length ys) (pre ++ (xs ++ post)) ≡ post = sym (drop-drop (length ys) n (pre ++ (xs ++ post))) ∙ ap (drop (length ys)) (drop_at pre (xs ++ post) n e) ∙ drop_at xs post (length ys) f in
    sets-eq ys (pre ++ (xs ++ post)) n h ∙ rw (t, d) (append_assoc pre ys post)

-- a list is what stands before a part, the part and what stands behind it
three : (p n : ℕ) (xs : List ℕ) → take p xs ++ (part p n xs ++ drop n (drop p xs)) ≡ xs
three p n xs = ap (λ (l : List ℕ). take p xs ++ l) (take-append-drop n (drop p xs)) ∙ take-append-drop p xs

-- a part `&mut s[p..e]`, with e = p + n, comes back as a store of what it holds then
pub back : (p n : ℕ) (ys xs : List ℕ) → length ys ≡ n → p + n ≤ length xs → take p xs ++ (ys ++ drop n (drop p xs)) ≡ sets xs p ys
back p n ys xs e h =
    let it = sets xs p ys in
    let tail = drop-drop n p it ∙ drop_behind ys xs (p + n) p (omega arith) ∙ sym (drop-drop n p xs) in
    sym (cat (take_before ys xs p p (omega arith)) (cat (part_same p n ys xs e h) tail)) ∙ three p n it

-- and as stores within it, if that is what was done to it
pub back_into : (p n i : ℕ) (ys xs : List ℕ) → i + length ys ≤ n → take p xs ++ (sets (part p n xs) i ys ++ drop n (drop p xs)) ≡ sets xs (p + i) ys
back_into p n i ys xs h =
    let it = sets xs (p + i) ys in
    let tail = drop-drop n p it ∙ drop_behind ys xs (p + n) (p + i) (omega arith) ∙ sym (drop-drop n p xs) in
    sym (cat (take_before ys xs p (p + i) (omega arith)) (cat (part_into p n i ys xs h) tail)) ∙ three p n it

pub part_length : (p n : ℕ) (xs : List ℕ) → p + n ≤ length xs → length (part p n xs) ≡ n
part_length p n xs h = length-take-le n (drop p xs) (simp length-drop (omega arith))

-- stores into a part, stored in its place
pub sets_within : (p n i : ℕ) (ys xs : List ℕ) → i + length ys ≤ n → p + n ≤ length xs → sets xs p (sets (part p n xs) i ys) ≡ sets xs (p + i) ys
sets_within p n i ys xs h l =
    sym (back p n (sets (part p n xs) i ys) xs (length-sets (part p n xs) i ys ∙ part_length p n xs l) l) ∙ back_into p n i ys xs h

-- two parts, one behind the other
pub part_add : (p n m : ℕ) (xs : List ℕ) → part p (n + m) xs ≡ part p n xs ++ part (p + n) m xs
part_add p n m xs = take-add n m (drop p xs) ∙ ap (λ (r : List ℕ). part p n xs ++ take m r) (drop-drop n p xs)

-- the same as the code has them: it counts a part `s[p..e]` by e - p
module _ (p n : ℕ) where
  pub lent_count : (p + n) - p ≡ n
  lent_count = omega arith

  pub lent_part : (xs : List ℕ) → part p (p + n - p) xs ≡ part p n xs
  lent_part xs = ap (λ (k : ℕ). part p k xs) lent_count

  -- what was stored into it
  pub lent_into : (i : ℕ) (ys zs xs : List ℕ) → i + length ys ≤ n → zs ≡ sets (part p (p + n - p) xs) i ys → take p xs ++ (zs ++ drop (p + n - p) (drop p xs)) ≡ sets xs (p + i) ys
  lent_into i ys zs xs h e = rw (e, lent_count) (back_into p n i ys xs h)

  pub lent_first : (ys zs xs : List ℕ) → length ys ≤ n → zs ≡ sets (part p (p + n - p) xs) 0 ys → take p xs ++ (zs ++ drop (p + n - p) (drop p xs)) ≡ sets xs p ys
  lent_first ys zs xs h e = lent_into 0 ys zs xs (omega arith) e ∙ ap (λ (k : ℕ). sets xs k ys) (add-zero p)

  -- what it holds then
  module _ (ys xs : List ℕ) (h : p + n ≤ length xs) (e : length ys ≡ length (part p (p + n - p) xs)) where
    pub lent_length : length ys ≡ n
    lent_length = e ∙ ap length (lent_part xs) ∙ part_length p n xs h

    pub lent_back : take p xs ++ (ys ++ drop (p + n - p) (drop p xs)) ≡ sets xs p ys
    lent_back = ap (λ (k : ℕ). take p xs ++ (ys ++ drop k (drop p xs))) lent_count ∙ back p n ys xs lent_length h

-- bytes laid past a buffer's end
pub sets_out : (bytes xs : List ℕ) (p : ℕ) → length xs ≤ p → sets xs p bytes ≡ xs
sets_out [] xs p h = refl
sets_out (byte ∷ bytes) xs p h =
    ap (λ (l : List ℕ). sets l (suc p) bytes) (set_out xs p byte h) ∙ sets_out bytes xs (suc p) (omega arith)
