-- Every list of bytes is read in one way; and so the bytes taken on a port decide what it started. Assumes nothing.
use mathlib.Core.Path.{◌≡◌, refl, sym, ◌∙◌, ap, subst}
use mathlib.Core.Logic.{◌⊎◌, inl, inr}
use mathlib.Core.List.{List, [], ◌∷◌, ◌++◌, append-nil, append_assoc}
use Rattle.serial.specs.Machine.{Fed, more, full, Machine}
use Rattle.serial.specs.Core.{Phase, gathering, ready, running, replying}
use Rattle.serial.specs.Reading.{Spelled, NoneWhole, Reads, OkBytes, OneReading}
use Rattle.serial.specs.Demand3.{Taken, ready_in}
use Rattle.serial.specs.Laws.{Laws}
use Rattle.serial.proofs.Bytes.{spelled_add}

module _ (M : Machine) (L : Laws M) where
  open M use {Byte, Gather, Message, none_yet, feed, Gathered, Spells}
  open L use {begun, more_is, full_is, not_whole, decides, prefix_free}

  -- two fronts of the same bytes: one begins the other
  abbrev Begins : List Byte → List Byte → List Byte → List Byte → Type 0
  Begins a s b t = (c : List Byte) × (b ≡ a ++ c) × (s ≡ c ++ t)

  fronts : (a s b t : List Byte) → a ++ s ≡ b ++ t → Begins a s b t ⊎ Begins b t a s
  fronts [] s b t e = inl (b, refl, e)
  fronts (x ∷ a) s [] t e = inr (x ∷ a, refl, sym e)
  fronts (x ∷ a) s (y ∷ b) t e =
      let h : x ≡ y = cc in
      let k : a ++ s ≡ b ++ t = cc in
      elim (fronts a s b t k) [
        | inl i ↦ inl (i.0, cc (h, i.1), i.2)
        | inr i ↦ inr (i.0, cc (h, i.1), i.2)
      ]

  -- two messages at the front of the same bytes are one
  begins_same : (a s b t : List Byte) (m n : Message) → Spells a m → Spells b n → Begins a s b t → (m ≡ n) × (s ≡ t)
  begins_same a s b t m n p q i =
      let z = prefix_free a i.0 m n p (subst (λ c. Spells c n) i.1 q) in
      let y : b ≡ a = i.1 ∙ ap (λ c. a ++ c) z ∙ append-nil a in
      (decides a m n p (subst (λ c. Spells c n) y q), i.2 ∙ ap (λ c. c ++ t) z)

  front_same : (a s b t : List Byte) (m n : Message) → Spells a m → Spells b n → a ++ s ≡ b ++ t → (m ≡ n) × (s ≡ t)
  front_same a s b t m n p q e = elim (fronts a s b t e) [
    | inl i ↦ begins_same a s b t m n p q i
    | inr i ↦ let r = begins_same b t a s n m q p i in (sym r.0, sym r.1)
  ]

  once : (ms ns : List Message) (f g c e bs : List Byte) → bs ≡ f ++ c → bs ≡ g ++ e → Spelled M ms f → Spelled M ns g → NoneWhole M c → NoneWhole M e
      → (ms ≡ ns) × (c ≡ e)
  unfolding Spelled
  once [] [] f g c e bs i j s t u v = (refl, sym (i ∙ ap (λ z. z ++ c) s) ∙ j ∙ ap (λ z. z ++ e) t)
  once [] (n ∷ ns) f g c e bs i j s t u v =
      absurd (u t.0 (t.1 ++ e) n (sym (i ∙ ap (λ z. z ++ c) s) ∙ j ∙ ap (λ z. z ++ e) t.2 ∙ append_assoc t.0 t.1 e) t.3)
  once (m ∷ ms) [] f g c e bs i j s t u v =
      absurd (v s.0 (s.1 ++ c) m (sym (j ∙ ap (λ z. z ++ e) t) ∙ i ∙ ap (λ z. z ++ c) s.2 ∙ append_assoc s.0 s.1 c) s.3)
  once (m ∷ ms) (n ∷ ns) f g c e bs i j s t u v =
      let x : bs ≡ s.0 ++ (s.1 ++ c) = i ∙ ap (λ z. z ++ c) s.2 ∙ append_assoc s.0 s.1 c in
      let y : bs ≡ t.0 ++ (t.1 ++ e) = j ∙ ap (λ z. z ++ e) t.2 ∙ append_assoc t.0 t.1 e in
      let h = front_same s.0 (s.1 ++ c) t.0 (t.1 ++ e) m n s.3 t.3 (sym x ∙ y) in
      let k = once ms ns s.1 t.1 c e (s.1 ++ c) refl h.1 s.4 t.4 u v in
      (cc (h.0, k.0), k.1)

  pub reads_once : (bs : List Byte) (ms ns : List Message) (c e : List Byte) → Reads M ms c bs → Reads M ns e bs → (ms ≡ ns) × (c ≡ e)
  reads_once bs ms ns c e r q = once ms ns r.front q.front c e bs r.all q.all r.spelled q.spelled r.none_whole q.none_whole

  -- what is gathered has no whole message in front
  gathered_none : (bs : List Byte) (x : Gather) → Gathered bs x → NoneWhole M bs
  gathered_none bs x h c rest m e s = not_whole c rest x m (subst (λ z. Gathered z x) e h) s

  fed_reads : (ms : List Message) (front c : List Byte) (x : Gather) → Spelled M ms front → Gathered c x → (bs : List Byte) → OkBytes M bs
      → (ns : List Message) × (rest : List Byte) × Reads M ns rest ((front ++ c) ++ bs)
  fed_reads ms front c x s h [] ok = (ms, c, record { front = front; all = append-nil (front ++ c); spelled = s; none_whole = gathered_none c x h })
  fed_reads ms front c x s h (b ∷ bs) ok = go (λ ns f e y s h. fed_reads ns f e y s h bs ok.1) (feed x b) refl
    where
      go : ((ns : List Message) (f e : List Byte) (y : Gather) → Spelled M ns f → Gathered e y
          → (ns : List Message) × (rest : List Byte) × Reads M ns rest ((f ++ e) ++ bs))
          → (o : Fed Gather Message) → feed x b ≡ o → (ns : List Message) × (rest : List Byte) × Reads M ns rest ((front ++ c) ++ (b ∷ bs))
      go again (more y) e =
          let q : (front ++ (c ++ (b ∷ []))) ++ bs ≡ (front ++ c) ++ (b ∷ bs) = ap (λ z. z ++ bs) (sym (append_assoc front c (b ∷ []))) ∙ append_assoc (front ++ c) (b ∷ []) bs in
          subst (λ z. (ns : List Message) × (rest : List Byte) × Reads M ns rest z) q (again ms front (c ++ (b ∷ [])) y s (more_is c x y b ok.0 h e))
      go again (full m) e =
          let q : ((front ++ (c ++ (b ∷ []))) ++ []) ++ bs ≡ (front ++ c) ++ (b ∷ bs) =
          ap (λ z. z ++ bs) (append-nil (front ++ (c ++ (b ∷ []))) ∙ sym (append_assoc front c (b ∷ []))) ∙ append_assoc (front ++ c) (b ∷ []) bs in
          subst (λ z. (ns : List Message) × (rest : List Byte) × Reads M ns rest z) q
          (again (ms ++ (m ∷ [])) (front ++ (c ++ (b ∷ []))) [] none_yet (spelled_add M ms front (c ++ (b ∷ [])) m s (full_is c x m b ok.0 h e)) begun)

  nothing_spelled : Spelled M [] []
  unfolding Spelled
  nothing_spelled = refl

  pub one_reading : OneReading M
  one_reading = record { some_way = λ bs ok. fed_reads [] [] [] none_yet nothing_spelled begun bs ok; one_way = reads_once }

  -- what a port took is read as what it started and has ready
  empty_none : NoneWhole M []
  empty_none = gathered_none [] none_yet begun

  all_spelled : (t front behind : List Byte) (ms : List Message) → t ≡ front ++ behind → behind ≡ [] → Spelled M ms front → Reads M (ms ++ []) [] t
  all_spelled t front behind ms e f s = record {
    front = front;
    all = e ∙ ap (λ z. front ++ z) f;
    spelled = rw (append-nil ms) s;
    none_whole = empty_none;
  }

  taken_reads : (ph : Phase M) (t : List Byte) (ms : List Message) → Taken M ph t ms → (rest : List Byte) × Reads M (ms ++ ready_in M ph) rest t
  taken_reads (gathering x) t ms h =
      (h.behind, record { front = h.front; all = h.all; spelled = rw (append-nil ms) h.spelled; none_whole = gathered_none h.behind x h.still })
  taken_reads (ready m) t ms h = (
    [],
    record {
      front = t;
      all = sym (append-nil t);
      spelled = subst (λ z. Spelled M (ms ++ (m ∷ [])) z) (sym h.all) (spelled_add M ms h.front h.behind m h.spelled h.still);
      none_whole = empty_none;
    },
  )
  taken_reads (running g k) t ms h = ([], all_spelled t h.front h.behind ms h.all h.still h.spelled)
  taken_reads (replying r) t ms h = ([], all_spelled t h.front h.behind ms h.all h.still h.spelled)

  pub taken_read : (ph : Phase M) (t : List Byte) (ms : List Message) → Taken M ph t ms → (ns : List Message) (rest : List Byte) → Reads M ns rest t → ns ≡ ms ++ ready_in M ph
  taken_read ph t ms h ns rest r = let q = taken_reads ph t ms h in (reads_once t ns (ms ++ ready_in M ph) rest q.0 r q.1).0
