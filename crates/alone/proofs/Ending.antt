-- A transfer ends as its characters say, and in one way.
-- Assumes nothing.
use mathlib.Core.Path.{◌≡◌, ◌∙◌, refl, sym, ap, subst}
use mathlib.Core.List.{List, [], ◌∷◌, ◌++◌}
use Prim.Native.Nat.{ℕ, zero, suc, ◌+◌, ◌<◌}
use native.Mathlib.Omega.{arith}
use lib.Dec.{leb}
use lib.ListN.{get_or, set}
use borrow.Author.Tests.{le-leb, lt-leb}
use Rattle.base.specs.Choice.{pick}
use Rattle.base.proofs.Choices.{choose_eq, by_lt, by_eq}
use Rattle.handler.specs.declared.Done.{Done}
use Rattle.handler.specs.declared.Done.TheVariants as done
use Rattle.handler.specs.declared.Got.{Got}
use Rattle.handler.specs.declared.Got.TheVariants as got
use Rattle.handler.specs.Answer.{Gives, plain, warns, got_high}
use Rattle.handler.specs.Acts.{Acts}
use Rattle.handler.proofs.Giving.{gives_refused, gives_byte, high_refused}
use Rattle.blocks.specs.declared.Way.{Way}
use Rattle.blocks.specs.declared.Way.TheVariants.{One, Characters, Record}
use Rattle.replies.specs.Replies.{bytes_at}
use Rattle.transfer.specs.Transfer.{eol}
use Rattle.alone.specs.Transfer.{TransferEnd, last, on_got, on_done, get_one, put_one, get_characters, drop_line, get_record, put_characters, put_record, getting, putting}
use Rattle.alone.specs.Moves.{Lines}
use Rattle.alone.specs.Ending.{IsLast, places_of, read_to, read_says, GoesOn, ReadsTo, GetEnds, get_refused, get_whole, get_cut, most_sent, written_to, write_says, SentOn, WritesTo, PutEnds, put_refused, put_whole}

-- by what the handler says
pub on_got_lem : {R : Type 0} (P : R → Type 0) (says : Got) (f : (status byte : ℕ) → R) (g : (status : ℕ) → R)
    → ((status byte : ℕ) → Gives says status byte → P (f status byte)) → ((status : ℕ) → says ≡ got.Refused status → P (g status)) → P (on_got says f g)
on_got_lem P (got.Character byte) f g p q = p 0x01 byte (plain refl refl)
on_got_lem P (got.Last byte) f g p q = p 0x03 byte (warns refl refl)
on_got_lem P (got.Refused status) f g p q = q status refl

pub on_done_lem : {R : Type 0} (P : R → Type 0) (says : Done) (f : Unit {0} → R) (g : ℕ → R) → (says ≡ done.Success → P (f tt)) → ((status : ℕ) → says ≡ done.Refused status → P (g status)) → P (on_done says f g)
on_done_lem P done.Success f g p q = p refl
on_done_lem P (done.Refused status) f g p q = q status refl

places_none : (n : ℕ) → places_of n 0 ≡ 0
places_none zero = refl
places_none (suc n) = refl

one_more : (n : ℕ) → n + 1 ≡ suc n
one_more n = omega arith

-- before its first character a transfer has come to it
none_before : (P : ℕ → Type 0) (j : ℕ) → j < 0 → P j
none_before P j h = absurd (omega arith)

-- of the first, and of those behind it
before_suc : (P : ℕ → Type 0) (k : ℕ) → P 0 → ((j : ℕ) → j < k → P (suc j)) → (j : ℕ) → j < suc k → P j
before_suc P k p q zero h = p
before_suc P k p q (suc j) h = q j (omega arith)

-- a transfer's end: so many counted before, so many with it
pub record EndsAs {D : Type 0} (Ended : (status count : ℕ) → D → Type 0) (before : ℕ) (r : TransferEnd D) : Type 0 where
  pub more : ℕ
  pub count : r.count ≡ before + more
  pub ends : Ended r.status more r.device

last_down : (way : Way) (n k byte : ℕ) → IsLast way (suc n) (suc k) byte → IsLast way n k byte
last_down One n k byte l = tt
last_down Characters n k byte l = omega arith
last_down Record n k byte l = l

last_up : (way : Way) (n k byte : ℕ) → IsLast way n k byte → IsLast way (suc n) (suc k) byte
last_up One n k byte l = tt
last_up Characters n k byte l = omega arith
last_up Record n k byte l = l

-- a length of 0 has the way One, and no other
abbrev pub LengthFits : Way → (n : ℕ) → Type 0
LengthFits One n = n ≡ 0
LengthFits Characters n = 0 < n
LengthFits Record n = 0 < n

abbrev IsOne : Way → Type 0
IsOne One = Unit {0}
IsOne Characters = ⊥
IsOne Record = ⊥

one_record : One ≡ Record → ⊥
one_record e = subst IsOne e tt

abbrev IsCharacters : Way → Type 0
IsCharacters One = ⊥
IsCharacters Characters = Unit {0}
IsCharacters Record = ⊥

characters_record : Characters ≡ Record → ⊥
characters_record e = subst IsCharacters e tt

-- what a handler says to a PUT, as a number
abbrev refusal_to : Done → ℕ
refusal_to done.Success = 0
refusal_to (done.Refused status) = suc status

module _ {D : Type 0} (H : Acts D) where
  module _ (way : Way) (n : ℕ) (x : D) where
    -- a character more in front: of one that has a place in the buffer
    reads_behind : GoesOn H way (suc n) x 0 → (k : ℕ) → ReadsTo H way n (H.reads x).leaves k → ReadsTo H way (suc n) x (suc k)
    reads_behind g k q =
        before_suc (GoesOn H way (suc n) x) k g
        (λ j h. record { status = (q j h).status; byte = (q j h).byte; given = (q j h).given; more = λ l. (q j h).more (last_down way n j (q j h).byte l) })

    get_behind : {status count : ℕ} {y : D} → GoesOn H way (suc n) x 0 → GetEnds H way n (H.reads x).leaves status count y → GetEnds H way (suc n) x status (suc count) y
    get_behind g (get_refused k status q e h) = get_refused (suc k) status (reads_behind g k q) e h
    get_behind g (get_whole k status byte q e l h) = get_whole (suc k) status byte (reads_behind g k q) e (last_up way n k byte l) (λ r. let b = h r in omega arith)
    get_behind g (get_cut k status q e r h) = get_cut (suc k) status (reads_behind g k q) e r (omega arith)

  -- of one that is dropped
  drops_behind : (x : D) → GoesOn H Record 0 x 0 → (k : ℕ) → ReadsTo H Record 0 (H.reads x).leaves k → ReadsTo H Record 0 x (suc k)
  drops_behind x g k q = before_suc (GoesOn H Record 0 x) k g (λ j h. record { status = (q j h).status; byte = (q j h).byte; given = (q j h).given; more = (q j h).more })

  module _ (x : D) where
    drop_behind : {status count : ℕ} {y : D} → GoesOn H Record 0 x 0 → GetEnds H Record 0 (H.reads x).leaves status count y → GetEnds H Record 0 x status count y
    drop_behind g (get_refused k status q e h) = get_refused (suc k) status (drops_behind x g k q) e h
    drop_behind g (get_whole k status byte q e l h) = absurd (let b = h refl in omega arith)
    drop_behind g (get_cut k status q e r h) = get_cut (suc k) status (drops_behind x g k q) e r (omega arith)

  module _ (left : D → ℕ) (a : ℕ) where
    abbrev GotAs : Way → (n : ℕ) → D → (before : ℕ) → TransferEnd D → Type 0
    GotAs way n x before r = EndsAs (GetEnds H way n x) before r

    module _ (high : (x : D) → got_high (H.reads x).says) where
      -- it is refused at once
      got_refused : (way : Way) (n : ℕ) (x : D) (area : List ℕ) (before status : ℕ) → (H.reads x).says ≡ got.Refused status → GotAs way n x before (last area (H.reads x).leaves status before a)
      got_refused way n x area before status e = record {
        more = places_of n 0;
        count = omega (arith, places_none n);
        ends = get_refused 0 status (none_before (GoesOn H way n x)) e (high_refused (H.reads x).says status (high x) e);
      }

      get_one_lem : (n count : ℕ) (area : List ℕ) (x : D) → n ≡ 0 → GotAs One n x count (get_one H left a count area x)
      unfolding get_one
      get_one_lem n count area x z =
          on_got_lem (GotAs One n x count) (H.reads x).says _ _
          (λ status byte e. record {
            more = places_of n 1;
            count = rw z (omega arith);
            ends = get_whole 0 status byte (none_before (GoesOn H One n x)) e tt (λ r. absurd (one_record r));
          })
          (λ status e. got_refused One n x area count status e)

      get_characters_lem : (said n place count : ℕ) (area : List ℕ) (x : D) → 0 < n → GotAs Characters n x count (get_characters H left a said n place count area x)
      unfolding get_characters
      get_characters_lem said zero place count area x h = absurd (omega arith)
      get_characters_lem said (suc zero) place count area x h =
          on_got_lem (GotAs Characters 1 x count) (H.reads x).says _ _
          (λ status byte e. record {
            more = 1;
            count = refl;
            ends = get_whole 0 status byte (none_before (GoesOn H Characters 1 x)) e refl (λ r. absurd (characters_record r));
          })
          (λ status e. got_refused Characters 1 x area count status e)
      get_characters_lem said (suc (suc n)) place count area x h =
          on_got_lem (GotAs Characters (suc (suc n)) x count) (H.reads x).says _ _
          (λ status byte e.
          let t = get_characters_lem status (suc n) (place + 1) (count + 1) (set area place byte) (H.reads x).leaves (omega arith) in
          record {
            more = suc t.more;
            count = omega (arith, t.count);
            ends = get_behind Characters (suc n) x (record { status = status; byte = byte; given = e; more = λ l. omega arith }) t.ends;
          })
          (λ status e. got_refused Characters (suc (suc n)) x area count status e)

      -- the EOL of a record that is cut
      cut_here : (count : ℕ) (area : List ℕ) (x : D) (status byte : ℕ) → Gives (H.reads x).says status byte → byte ≡ eol → GotAs Record 0 x count (last area (H.reads x).leaves 0x89 count a)
      cut_here count area x status byte e l = record {
        more = 0;
        count = omega arith;
        ends = get_cut 0 status (none_before (GoesOn H Record 0 x)) (subst (Gives (H.reads x).says status) l e) refl (omega arith);
      }

      module _ (Fit : D → Type 0) (Z : Lines H left Fit) where
        drop_line_lem : (m count : ℕ) (area : List ℕ) (x : D) → Fit x → left x ≡ m → GotAs Record 0 x count (drop_line H left a m count area x)
        unfolding drop_line
        drop_line_lem zero count area x f z =
            on_got_lem (GotAs Record 0 x count) (H.reads x).says _ _
            (λ status byte e. by_eq byte eol
            (λ l. cut_here count area x status byte e l)
            (λ n. absurd (omega (arith, Z.falls x status byte f e n))))
            (λ status e. got_refused Record 0 x area count status e)
        drop_line_lem (suc m) count area x f z =
            on_got_lem (GotAs Record 0 x count) (H.reads x).says _ _
            (λ status byte e. choose_eq (GotAs Record 0 x count) byte eol _ _
            (λ l. cut_here count area x status byte e l)
            (λ n.
            let t = drop_line_lem m count area (H.reads x).leaves (Z.read_fit x f) (omega (arith, Z.falls x status byte f e n)) in
            record {
              more = t.more;
              count = t.count;
              ends = drop_behind x (record { status = status; byte = byte; given = e; more = n }) t.ends;
            }))
            (λ status e. got_refused Record 0 x area count status e)

        get_record_lem : (n place count : ℕ) (area : List ℕ) (x : D) → Fit x → GotAs Record n x count (get_record H left a n place count area x)
        unfolding get_record
        get_record_lem zero place count area x f = drop_line_lem (left x) count area x f refl
        get_record_lem (suc n) place count area x f =
            on_got_lem (GotAs Record (suc n) x count) (H.reads x).says _ _
            (λ status byte e. choose_eq (GotAs Record (suc n) x count) byte eol _ _
            (λ l. record {
              more = places_of (suc n) 1;
              count = omega (arith, places_none n);
              ends = get_whole 0 status byte (none_before (GoesOn H Record (suc n) x)) e l (λ r. omega arith);
            })
            (λ m.
            let t = get_record_lem n (place + 1) (count + 1) (set area place byte) (H.reads x).leaves (Z.read_fit x f) in
            record {
              more = suc t.more;
              count = omega (arith, t.count);
              ends = get_behind Record n x (record { status = status; byte = byte; given = e; more = m }) t.ends;
            }))
            (λ status e. got_refused Record (suc n) x area count status e)

  -- A PUT's
  module _ (way : Way) (n byte : ℕ) (sent : List ℕ) (x : D) where
    writes_behind : SentOn H way (suc n) (byte ∷ sent) x 0 → (k : ℕ) → WritesTo H way n sent (H.writes byte x).leaves k → WritesTo H way (suc n) (byte ∷ sent) x (suc k)
    writes_behind g k q =
        before_suc (SentOn H way (suc n) (byte ∷ sent) x) k g
        (λ j h. record { taken = (q j h).taken; more = λ l. (q j h).more (last_down way n j (get_or sent j 0) l) })

    put_behind : {status count : ℕ} {y : D} → SentOn H way (suc n) (byte ∷ sent) x 0 → PutEnds H way n sent (H.writes byte x).leaves status count y → PutEnds H way (suc n) (byte ∷ sent) x status (suc count) y
    put_behind g (put_refused k status q e) = put_refused (suc k) status (writes_behind g k q) e
    put_behind g (put_whole k q e l) = put_whole (suc k) (writes_behind g k q) e (last_up way n k (get_or sent k 0) l)

  at_next : {status count : ℕ} {y : D} (way : Way) (n place : ℕ) (sent : ℕ → List ℕ) (x : D) → PutEnds H way n (sent (place + 1)) x status count y → PutEnds H way n (sent (suc place)) x status count y
  at_next {status} {count} {y} way n place sent x e = subst (λ (next : ℕ). PutEnds H way n (sent next) x status count y) (one_more place) e

  module _ (left : D → ℕ) (a : ℕ) where
    abbrev PutAs : Way → (n : ℕ) → (sent : List ℕ) → D → (before : ℕ) → TransferEnd D → Type 0
    PutAs way n sent x before r = EndsAs (PutEnds H way n sent x) before r

    put_refused_here : (way : Way) (n byte : ℕ) (sent : List ℕ) (x : D) (area : List ℕ) (before status : ℕ) → (H.writes byte x).says ≡ done.Refused status
        → PutAs way n (byte ∷ sent) x before (last area (H.writes byte x).leaves status before a)
    put_refused_here way n byte sent x area before status e = record {
      more = places_of n 0;
      count = omega (arith, places_none n);
      ends = put_refused 0 status (none_before (SentOn H way n (byte ∷ sent) x)) e;
    }

    put_last : (way : Way) (n byte : ℕ) (sent : List ℕ) (x : D) (area : List ℕ) (before count : ℕ) → (H.writes byte x).says ≡ done.Success → IsLast way n 0 byte → count ≡ before + places_of n 1
        → PutAs way n (byte ∷ sent) x before (last area (H.writes byte x).leaves 0x01 count a)
    put_last way n byte sent x area before count e l c = record {
      more = places_of n 1;
      count = c;
      ends = put_whole 0 (none_before (SentOn H way n (byte ∷ sent) x)) e l;
    }

    put_one_lem : (n count : ℕ) (area : List ℕ) (x : D) → n ≡ 0 → PutAs One n (a ∷ []) x count (put_one H left a count area x)
    unfolding put_one
    put_one_lem n count area x z =
        on_done_lem (PutAs One n (a ∷ []) x count) (H.writes a x).says _ _
        (λ e. put_last One n a [] x area count count e tt (rw z (omega arith)))
        (λ status e. put_refused_here One n a [] x area count status e)

    put_characters_lem : (n place count : ℕ) (area : List ℕ) (x : D) → 0 < n → PutAs Characters n (bytes_at area place n) x count (put_characters H left a n place count area x)
    unfolding put_characters bytes_at
    put_characters_lem zero place count area x h = absurd (omega arith)
    put_characters_lem (suc zero) place count area x h =
        on_done_lem (PutAs Characters 1 (bytes_at area place 1) x count) (H.writes (get_or area place 0) x).says _ _
        (λ e. record { more = 1; count = refl; ends = put_whole 0 (none_before (SentOn H Characters 1 (get_or area place 0 ∷ []) x)) e refl })
        (λ status e. put_refused_here Characters 1 (get_or area place 0) [] x area count status e)
    put_characters_lem (suc (suc n)) place count area x h =
        let byte = get_or area place 0 in
        let sent = bytes_at area (suc place) (suc n) in
        on_done_lem (PutAs Characters (suc (suc n)) (byte ∷ sent) x count) (H.writes byte x).says _ _
        (λ e.
        let t = put_characters_lem (suc n) (place + 1) (count + 1) area (H.writes byte x).leaves (omega arith) in
        record {
          more = suc t.more;
          count = omega (arith, t.count);
          ends =
              put_behind Characters (suc n) byte sent x (record { taken = e; more = λ l. omega arith })
              (at_next Characters (suc n) place (λ next. bytes_at area next (suc n)) (H.writes byte x).leaves t.ends);
        })
        (λ status e. put_refused_here Characters (suc (suc n)) byte sent x area count status e)

    put_record_lem : (n place count : ℕ) (area : List ℕ) (x : D) → PutAs Record n (bytes_at area place n ++ (eol ∷ [])) x count (put_record H left a n place count area x)
    unfolding put_record bytes_at
    put_record_lem zero place count area x =
        on_done_lem (PutAs Record 0 (eol ∷ []) x count) (H.writes eol x).says _ _
        (λ e. put_last Record 0 eol [] x area count count e refl (omega arith))
        (λ status e. put_refused_here Record 0 eol [] x area count status e)
    put_record_lem (suc n) place count area x =
        let byte = get_or area place 0 in
        let sent = bytes_at area (suc place) n ++ (eol ∷ []) in
        on_done_lem (PutAs Record (suc n) (byte ∷ sent) x count) (H.writes byte x).says _ _
        (λ e. choose_eq (PutAs Record (suc n) (byte ∷ sent) x count) byte eol _ _
        (λ l. put_last Record (suc n) byte sent x area count (count + 1) e l (omega (arith, places_none n)))
        (λ m.
        let t = put_record_lem n (place + 1) (count + 1) area (H.writes byte x).leaves in
        record {
          more = suc t.more;
          count = omega (arith, t.count);
          ends =
              put_behind Record n byte sent x (record { taken = e; more = m })
              (at_next Record n place (λ next. bytes_at area next n ++ (eol ∷ [])) (H.writes byte x).leaves t.ends);
        }))
        (λ status e. put_refused_here Record (suc n) byte sent x area count status e)

  module _ (left : D → ℕ) (a : ℕ) where
    getting_ends : (Fit : D → Type 0) (Z : Lines H left Fit) (way : Way) (n place : ℕ) (area : List ℕ) (x : D) → Fit x → LengthFits way n → GotAs left a way n x 0 (getting H left a way n place 0 area x)
    unfolding getting
    getting_ends Fit Z One n place area x f h = get_one_lem left a Z.high n 0 area x h
    getting_ends Fit Z Characters n place area x f h = get_characters_lem left a Z.high 0x01 n place 0 area x h
    getting_ends Fit Z Record n place area x f h = get_record_lem left a Z.high Fit Z n place 0 area x f

    putting_ends : (way : Way) (n place : ℕ) (area : List ℕ) (x : D) → LengthFits way n → PutAs left a way n (most_sent way a n area place) x 0 (putting H left a way n place 0 area x)
    unfolding putting
    putting_ends One n place area x h = put_one_lem left a n 0 area x h
    putting_ends Characters n place area x h = put_characters_lem left a n place 0 area x h
    putting_ends Record n place area x h = put_record_lem left a n place 0 area x

    -- with the status and the count of its reply
    pub get_ends : (Fit : D → Type 0) (Z : Lines H left Fit) (way : Way) (n place : ℕ) (area : List ℕ) (x : D) → Fit x → LengthFits way n
        → let r = getting H left a way n place 0 area x in
        GetEnds H way n x r.status r.count r.device
    get_ends Fit Z way n place area x f h =
        let t = getting_ends Fit Z way n place area x f h in
        subst (λ (count : ℕ). GetEnds H way n x (getting H left a way n place 0 area x).status count (getting H left a way n place 0 area x).device) (omega (arith, t.count)) t.ends

    pub put_ends : (way : Way) (n place : ℕ) (area : List ℕ) (x : D) → LengthFits way n
        → let r = putting H left a way n place 0 area x in
        PutEnds H way n (most_sent way a n area place) x r.status r.count r.device
    put_ends way n place area x h =
        let t = putting_ends way n place area x h in
        subst (λ (count : ℕ). PutEnds H way n (most_sent way a n area place) x (putting H left a way n place 0 area x).status count (putting H left a way n place 0 area x).device) (omega (arith, t.count)) t.ends

  -- A transfer ends in one way
  module _ (way : Way) (n : ℕ) (x : D) where
    -- at the first character that does not go on
    same_end : (k j : ℕ) → ReadsTo H way n x k → (GoesOn H way n x k → ⊥) → ReadsTo H way n x j → (GoesOn H way n x j → ⊥) → k ≡ j
    same_end k j q s r t = by_lt k j (λ h. absurd (s (r k h))) (λ h. by_lt j k (λ g. absurd (t (q j g))) (λ g. omega arith))

    -- by what is said to it, and with which status
    abbrev cut_at : Way → (k status : ℕ) → ℕ
    cut_at One k status = status
    cut_at Characters k status = status
    cut_at Record k status = pick (leb n k) 0x89 status

    abbrev status_at : ℕ → ℕ
    status_at k = on_got (read_says H k x) (λ status byte. cut_at way k status) (λ status. status)

    abbrev count_at : ℕ → ℕ
    count_at k = on_got (read_says H k x) (λ status byte. places_of n (suc k)) (λ status. places_of n k)

    -- what is made of a character that is given
    on_given : {R : Type 0} (says : Got) (status byte : ℕ) (f : (status byte : ℕ) → R) (g : (status : ℕ) → R) → Gives says status byte → on_got says f g ≡ f status byte
    on_given says status byte f g (plain e z) = rw (e, z)
    on_given says status byte f g (warns e z) = rw (e, z)

    pub record EndsAt (status count : ℕ) (left : D) : Type 0 where
      pub k : ℕ
      pub reads : ReadsTo H way n x k
      pub stops : GoesOn H way n x k → ⊥
      pub says_status : status ≡ status_at k
      pub says_count : count ≡ count_at k
      pub says_left : left ≡ read_to H (suc k) x

    not_cut : (w : Way) (k status : ℕ) → (w ≡ Record → k < n) → cut_at w k status ≡ status
    not_cut One k status h = refl
    not_cut Characters k status h = refl
    not_cut Record k status h = rw (lt-leb n k (h refl))

    ends_at : {status count : ℕ} {y : D} → GetEnds H way n x status count y → EndsAt status count y
    ends_at (get_refused k status q e h) = record {
      k = k;
      reads = q;
      stops = λ g. gives_refused status g.given e;
      says_status = rw e;
      says_count = rw e;
      says_left = refl;
    }
    ends_at (get_whole k status byte q e l h) = record {
      k = k;
      reads = q;
      stops = λ g. g.more (subst (IsLast way n k) (gives_byte g.status g.byte e g.given) l);
      says_status = sym (on_given (read_says H k x) status byte _ _ e ∙ not_cut way k status h);
      says_count = sym (on_given (read_says H k x) status byte _ _ e);
      says_left = refl;
    }
    ends_at (get_cut k status q e r h) = record {
      k = k;
      reads = q;
      stops = λ g. g.more (subst (λ (w : Way). IsLast w n k g.byte) (sym r) (sym (gives_byte g.status g.byte e g.given)));
      says_status = sym (on_given (read_says H k x) status eol _ _ e ∙ rw (r, le-leb n k h));
      says_count = sym (on_given (read_says H k x) status eol _ _ e);
      says_left = refl;
    }

    pub get_once : {status count s c : ℕ} {y z : D} → GetEnds H way n x status count y → GetEnds H way n x s c z → (status ≡ s) × ((count ≡ c) × (y ≡ z))
    get_once p q =
        let a = ends_at p in
        let b = ends_at q in
        let e = same_end a.k b.k a.reads a.stops b.reads b.stops in (
          a.says_status ∙ ap status_at e ∙ sym b.says_status,
          (a.says_count ∙ ap count_at e ∙ sym b.says_count, a.says_left ∙ ap (λ (k : ℕ). read_to H (suc k) x) e ∙ sym b.says_left),
        )

  module _ (way : Way) (n : ℕ) (sent : List ℕ) (x : D) where
    same_sent : (k j : ℕ) → WritesTo H way n sent x k → (SentOn H way n sent x k → ⊥) → WritesTo H way n sent x j → (SentOn H way n sent x j → ⊥) → k ≡ j
    same_sent k j q s r t = by_lt k j (λ h. absurd (s (r k h))) (λ h. by_lt j k (λ g. absurd (t (q j g))) (λ g. omega arith))

    abbrev put_status : ℕ → ℕ
    put_status k = on_done (write_says H sent k x) (λ u. 0x01) (λ status. status)

    abbrev put_count : ℕ → ℕ
    put_count k = on_done (write_says H sent k x) (λ u. places_of n (suc k)) (λ status. places_of n k)

    pub record SentAt (status count : ℕ) (left : D) : Type 0 where
      pub k : ℕ
      pub writes : WritesTo H way n sent x k
      pub stops : SentOn H way n sent x k → ⊥
      pub says_status : status ≡ put_status k
      pub says_count : count ≡ put_count k
      pub says_left : left ≡ written_to H sent (suc k) x

    sent_at : {status count : ℕ} {y : D} → PutEnds H way n sent x status count y → SentAt status count y
    sent_at (put_refused k status q e) = record {
      k = k;
      writes = q;
      stops = λ g. omega (arith, ap refusal_to (sym e ∙ g.taken));
      says_status = rw e;
      says_count = rw e;
      says_left = refl;
    }
    sent_at (put_whole k q e l) = record { k = k; writes = q; stops = λ g. g.more l; says_status = rw e; says_count = rw e; says_left = refl }

    pub put_once : {status count s c : ℕ} {y z : D} → PutEnds H way n sent x status count y → PutEnds H way n sent x s c z → (status ≡ s) × ((count ≡ c) × (y ≡ z))
    put_once p q =
        let a = sent_at p in
        let b = sent_at q in
        let e = same_sent a.k b.k a.writes a.stops b.writes b.stops in (
          a.says_status ∙ ap put_status e ∙ sym b.says_status,
          (a.says_count ∙ ap put_count e ∙ sym b.says_count, a.says_left ∙ ap (λ (k : ℕ). written_to H sent (suc k) x) e ∙ sym b.says_left),
        )

  -- "The reply's A is the request's except after a successful read of length 0."
  module _ (left : D → ℕ) (a : ℕ) where
    abbrev KeepsA : TransferEnd D → Type 0
    KeepsA r = r.a ≡ a

    characters_a : (said n place count : ℕ) (area : List ℕ) (x : D) → KeepsA (get_characters H left a said n place count area x)
    unfolding get_characters
    characters_a said zero place count area x = refl
    characters_a said (suc n) place count area x =
        on_got_lem KeepsA (H.reads x).says _ _
        (λ status byte e. characters_a status n (place + 1) (count + 1) (set area place byte) (H.reads x).leaves)
        (λ status e. refl)

    drop_a : (m count : ℕ) (area : List ℕ) (x : D) → KeepsA (drop_line H left a m count area x)
    unfolding drop_line
    drop_a zero count area x = on_got_lem KeepsA (H.reads x).says _ _ (λ status byte e. refl) (λ status e. refl)
    drop_a (suc m) count area x =
        on_got_lem KeepsA (H.reads x).says _ _
        (λ status byte e. choose_eq KeepsA byte eol _ _ (λ l. refl) (λ n. drop_a m count area (H.reads x).leaves))
        (λ status e. refl)

    record_a : (n place count : ℕ) (area : List ℕ) (x : D) → KeepsA (get_record H left a n place count area x)
    unfolding get_record
    record_a zero place count area x = drop_a (left x) count area x
    record_a (suc n) place count area x =
        on_got_lem KeepsA (H.reads x).says _ _
        (λ status byte e. choose_eq KeepsA byte eol _ _ (λ l. refl) (λ m. record_a n (place + 1) (count + 1) (set area place byte) (H.reads x).leaves))
        (λ status e. refl)

    pub get_kept : (way : Way) (n place : ℕ) (area : List ℕ) (x : D) → LengthFits way n → (n ≡ 0 → (status byte : ℕ) → Gives (H.reads x).says status byte → ⊥) → KeepsA (getting H left a way n place 0 area x)
    unfolding getting get_one
    get_kept One n place area x h none = on_got_lem KeepsA (H.reads x).says _ _ (λ status byte e. absurd (none h status byte e)) (λ status e. refl)
    get_kept Characters n place area x h none = characters_a 0x01 n place 0 area x
    get_kept Record n place area x h none = record_a n place 0 area x

    pub get_read : (way : Way) (n place : ℕ) (area : List ℕ) (x : D) (status byte : ℕ) → LengthFits way n → n ≡ 0 → Gives (H.reads x).says status byte → (getting H left a way n place 0 area x).a ≡ byte
    unfolding getting get_one
    get_read One n place area x status byte h z e = on_got_lem (λ (r : TransferEnd D). r.a ≡ byte) (H.reads x).says _ _ (λ t b f. gives_byte status byte f e) (λ s f. absurd (gives_refused s e f))
    get_read Characters n place area x status byte h z e = absurd (omega arith)
    get_read Record n place area x status byte h z e = absurd (omega arith)

    put_characters_a : (n place count : ℕ) (area : List ℕ) (x : D) → KeepsA (put_characters H left a n place count area x)
    unfolding put_characters
    put_characters_a zero place count area x = refl
    put_characters_a (suc n) place count area x =
        on_done_lem KeepsA (H.writes (get_or area place 0) x).says _ _
        (λ e. put_characters_a n (place + 1) (count + 1) area (H.writes (get_or area place 0) x).leaves)
        (λ status e. refl)

    put_record_a : (n place count : ℕ) (area : List ℕ) (x : D) → KeepsA (put_record H left a n place count area x)
    unfolding put_record
    put_record_a zero place count area x = on_done_lem KeepsA (H.writes eol x).says _ _ (λ e. refl) (λ status e. refl)
    put_record_a (suc n) place count area x =
        let byte = get_or area place 0 in
        on_done_lem KeepsA (H.writes byte x).says _ _
        (λ e. choose_eq KeepsA byte eol _ _ (λ l. refl) (λ m. put_record_a n (place + 1) (count + 1) area (H.writes byte x).leaves))
        (λ status e. refl)

    pub put_kept : (way : Way) (n place : ℕ) (area : List ℕ) (x : D) → KeepsA (putting H left a way n place 0 area x)
    unfolding putting put_one
    put_kept One n place area x = on_done_lem KeepsA (H.writes a x).says _ _ (λ e. refl) (λ status e. refl)
    put_kept Characters n place area x = put_characters_a n place 0 area x
    put_kept Record n place area x = put_record_a n place 0 area x
