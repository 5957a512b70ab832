-- What a call over bytes comes to: refused with 2 or 3, or what the call of the stick that the bytes stand for leaves. One law
-- for the four calls of a stick, and fresh start beside it.
-- Assumes nothing.
use mathlib.Core.Path.{◌≡◌, refl, sym, ◌∙◌, ap, subst}
use mathlib.Core.Logic.{◌↔◌}
use mathlib.Core.Bool.{true, false, true≢false}
use mathlib.Core.List.{List, [], ◌∷◌, ◌++◌}
use Prim.Native.Nat.{ℕ, ◌*◌, ◌≤◌, ◌<◌}
use native.Mathlib.Omega.{arith}
use lib.ListN.{length, drop, replicate}
use lib.Seq.{drop_at}
use Rattle.base.proofs.Choices.{by_test}
use Rattle.wire.specs.Messages.{room_length}
use Rattle.layout.specs.Places.{rooms_place}
use Rattle.layout.specs.Stick.{Stick, fresh_stick, Lent, lent}
use Rattle.layout.specs.Layout.{head_of}
use Rattle.layout.specs.Stands.{stands}
use Rattle.layout.proofs.Lengths.{head_length}
use Rattle.layout.proofs.Ports.{own_count, own_pending, own_places_lem}
use Rattle.damage.specs.Fits.{stick_fits}
use Rattle.calls.specs.Stick.{Outcome, refused}
use Rattle.calls.specs.Calls.{fresh_call, take_call, tick_call, give_call, press_call}
use Rattle.calls.specs.Bytes.{Buffers, buffers, Left, left, left_alone, buffers_fit, stick_by, lent_by, left_of, over_bytes, fresh_bytes, take_bytes, tick_bytes, give_bytes, press_bytes}
use Rattle.calls.specs.Parts.{Lengths}
use Rattle.calls.proofs.Passing.{lengths_of}
use Rattle.calls.proofs.Images.{fresh_images, take_call_images, tick_call_images, give_call_images, press_call_images}
use Rattle.rules.specs.Shape.{Shaped}
use Rattle.rules.specs.Answers.{OtherLength, Damaged, one_of, TakeAnswers, TickAnswers, GiveAnswers, PressAnswers}
use Rattle.rules.proofs.Answers.{take_answers, take_still, take_most, tick_answers, tick_still, tick_most, give_answers, give_still, give_most, press_answers, press_still, press_most}
use Rattle.rules.proofs.NeverDamaged as never
use Rattle.rules.proofs.FreshStart.{fresh_done, fresh_guarded, fresh_paper, fresh_tape}
use Rattle.demands.specs.Bytes.{UndamagedState}
use Rattle.demands.specs.Demand1.{DamagedBuffers, BytesAnswers, FreshBytesAnswers}
use Rattle.demands.proofs.Bytes.{lengths_true, over_done, over_stray, over_short, fresh_fitting, fresh_short, lent_lengths}

-- what the definitions come to, of one call of a stick; Ok is what it asks of the numbers that it is given
pub record Ruled (call : Stick → Lent → Outcome) (Answers : Stick → Lent → ℕ → Type 0) (Ok : Type 0) : Type 0 where
  pub most : (s : Stick) (l : Lent) → (call s l).answer ≤ 8
  pub answers : (s : Stick) (l : Lent) → Answers s l (call s l).answer
  pub two : (s : Stick) (l : Lent) → (call s l).answer ≡ 2 → OtherLength l
  pub three : (s : Stick) (l : Lent) → ((call s l).answer ≡ 3) ↔ Damaged s l
  pub still : (s : Stick) (l : Lent) → ((call s l).answer ≡ 0 → ⊥) → call s l ≡ refused (call s l).answer s l
  pub keeps : Ok → (s : Stick) (l : Lent) → Shaped s → stick_fits s l ≡ true → stick_fits (call s l).stick (call s l).lent ≡ true
  pub images : (s : Stick) (l : Lent) → (call s l).lent.images ≡ l.images

take_ruled : (port byte : ℕ) → Ruled (λ s l. take_call s l port byte) (λ s l. TakeAnswers s l port) (byte < 256)
take_ruled port byte = record {
  most = λ s l. take_most s l port byte;
  answers = λ s l. take_answers s l port byte;
  two = λ s l. (take_answers s l port byte).first.lengths.0;
  three = λ s l. (take_answers s l port byte).first.damaged;
  still = λ s l. take_still s l port byte;
  keeps = λ h s l. never.never_damaged (never.take_byte l port byte) h s;
  images = λ s l. take_call_images s l port byte;
}

tick_ruled : (port : ℕ) → Ruled (λ s l. tick_call s l port) (λ s l. TickAnswers s l port) (Unit {0})
tick_ruled port = record {
  most = λ s l. tick_most s l port;
  answers = λ s l. tick_answers s l port;
  two = λ s l. (tick_answers s l port).first.lengths.0;
  three = λ s l. (tick_answers s l port).first.damaged;
  still = λ s l. tick_still s l port;
  keeps = λ h s l. never.never_damaged (never.tick l port) tt s;
  images = λ s l. tick_call_images s l port;
}

give_ruled : (port : ℕ) → Ruled (λ s l. give_call s l port) (λ s l. GiveAnswers s l port) (Unit {0})
give_ruled port = record {
  most = λ s l. give_most s l port;
  answers = λ s l. give_answers s l port;
  two = λ s l. (give_answers s l port).first.lengths.0;
  three = λ s l. (give_answers s l port).first.damaged;
  still = λ s l. give_still s l port;
  keeps = λ h s l. never.never_damaged (never.give l port) tt s;
  images = λ s l. give_call_images s l port;
}

press_ruled : (code : ℕ) → Ruled (λ s l. press_call s l code) (λ s l. PressAnswers s l) (Unit {0})
press_ruled code = record {
  most = λ s l. press_most s l code;
  answers = λ s l. press_answers s l code;
  two = λ s l. (press_answers s l code).lengths.0;
  three = λ s l. (press_answers s l code).damaged;
  still = λ s l. press_still s l code;
  keeps = λ h s l. never.never_damaged (never.press l code) tt s;
  images = λ s l. press_call_images s l code;
}

-- where the lengths fit and the bytes stand, the head comes back
abbrev pub ComesBack : Buffers → Type 0
ComesBack b = Lengths b → stands b.state ≡ true → head_of (stick_by b) ++ drop rooms_place b.state ≡ b.state

-- and so of what is left over bytes: "Numbers 1 to 8 change nothing", and a call that is done leaves what an undamaged stick is
-- written as; no call changes an image
pub record LeftRuled (b : Buffers) (Ok : Type 0) (l : Left) : Type 0 where
  pub low : l.answer ≤ 8
  pub stays : ComesBack b → (l.answer ≡ 0 → ⊥) → l ≡ left_alone l.answer b
  pub kept : Ok → l.answer ≡ 0 → UndamagedState l.buffers
  pub images : l.buffers.images ≡ b.images

left_undamaged : (o : Outcome) → stick_fits o.stick o.lent ≡ true → UndamagedState (left_of o).buffers
left_undamaged o e =
    let l = o.lent in
    let r = drop_at (head_of o.stick) l.rooms rooms_place (head_length o.stick) in
    record {
      stick = o.stick;
      fits = subst (λ (xs : List ℕ). stick_fits o.stick (lent xs l.area l.screen l.paper l.tape l.images) ≡ true) (sym r) e;
      written = sym (ap (λ (xs : List ℕ). head_of o.stick ++ xs) r);
    }

refused_ruled : (b : Buffers) (Ok : Type 0) (n : ℕ) → 1 ≤ n → n ≤ 8 → LeftRuled b Ok (left_alone n b)
refused_ruled b Ok n h m =
    record { low = m; stays = λ w z. refl; kept = λ k z. let e : n ≡ 0 = z in absurd (omega (arith, e, h)); images = refl }

-- a stick that bytes of their length stand for
shaped_by : (b : Buffers) → Lengths b → Shaped (stick_by b)
shaped_by b f =
    let long : rooms_place ≤ length b.state = omega (arith, f.long) in
    record { table0 = own_count 0 (omega arith) b.state; table1 = own_count 1 (omega arith) b.state; pending = own_pending b.state long; places = own_places_lem b.state long }

-- by the two tests
module _ (call : Stick → Lent → Outcome) (b : Buffers) where
  over_by : (P : Left → Type 0) → ((Lengths b → ⊥) → P (left_alone 2 b))
      → (Lengths b → stands b.state ≡ false → P (left_alone 3 b))
      → (Lengths b → stands b.state ≡ true → P (left_of (call (stick_by b) (lent_by b)))) → P (over_bytes call b)
  over_by P short stray fits =
      by_test (buffers_fit b)
      (λ t.
      let f = lengths_of b t in
      by_test (stands b.state)
      (λ u. subst P (sym (over_done b call f u)) (fits f u))
      (λ u. subst P (sym (over_stray b call f u)) (stray f u)))
      (λ t.
      let n : Lengths b → ⊥ = λ f. true≢false (sym (lengths_true b f) ∙ t) in
      subst P (sym (over_short b call n)) (short n))

  module _ (Answers : Stick → Lent → ℕ → Type 0) (Ok : Type 0) (k : Ruled call Answers Ok) where
    over_damaged : ((over_bytes call b).answer ≡ 3) ↔ DamagedBuffers b
    over_damaged = over_by (λ l. (l.answer ≡ 3) ↔ DamagedBuffers b)
        (λ n. (λ e. let z : ◌≡◌ {A = ℕ} 2 3 = e in absurd (omega (arith, z)), λ d. absurd (n d.lengths)))
        (λ f t. (λ e. record { lengths = f; unsound = λ g. true≢false (sym g.stands ∙ t) }, λ d. refl))
        (λ f t.
        let s = stick_by b in
        let three = k.three s (lent_by b) in (
          λ e. record { lengths = f; unsound = λ g. true≢false (sym g.fits ∙ (three.0 e).damaged) },
          λ d. by_test (stick_fits s (lent_by b))
              (λ u. absurd (d.unsound (record { lengths = f; stands = t; fits = u })))
              (λ u. three.1 (record { lengths = lent_lengths b f; damaged = u })),
        ))

    over_exact : BytesAnswers b Answers (over_bytes call b).answer
    over_exact = record {
      lengths = (
        λ e f. by_test (stands b.state)
            (λ t. let z = sym (ap (λ (l : Left). l.answer) (over_done b call f t)) ∙ e in
            k.two (stick_by b) (lent_by b) z (lent_lengths b f))
            (λ t. let z : ◌≡◌ {A = ℕ} 3 2 = sym (ap (λ (l : Left). l.answer) (over_stray b call f t)) ∙ e in omega (arith, z)),
        λ n. ap (λ (l : Left). l.answer) (over_short b call n),
      );
      damaged = over_damaged;
      stick =
          λ f t. subst (Answers (stick_by b) (lent_by b)) (sym (ap (λ (l : Left). l.answer) (over_done b call f t)))
          (k.answers (stick_by b) (lent_by b));
    }

    over_left : LeftRuled b Ok (over_bytes call b)
    over_left = over_by (LeftRuled b Ok)
        (λ n. refused_ruled b Ok 2 (omega arith) (omega arith))
        (λ f t. refused_ruled b Ok 3 (omega arith) (omega arith))
        (λ f t.
        let s = stick_by b in
        let o = call s (lent_by b) in
        record {
          low = k.most s (lent_by b);
          stays =
              λ w z. ap left_of (k.still s (lent_by b) z)
              ∙ ap (λ (xs : List ℕ). left o.answer 0 (buffers xs b.area b.screen b.paper b.tape b.images)) (w f t);
          -- a call that is not refused with 3 is of an undamaged stick
          kept = λ h e. by_test (stick_fits s (lent_by b))
              (λ u. left_undamaged o (k.keeps h s (lent_by b) (shaped_by b f) u))
              (λ u. let d : Damaged s (lent_by b) = record { lengths = lent_lengths b f; damaged = u } in
              let z : ◌≡◌ {A = ℕ} 3 0 = sym ((k.three s (lent_by b)).1 d) ∙ e in absurd (omega (arith, z)));
          images = k.images s (lent_by b);
        })

module _ (b : Buffers) where
  pub take_exact : (port byte : ℕ) → BytesAnswers b (λ s l. TakeAnswers s l port) (take_bytes b port byte).answer
  unfolding take_bytes
  take_exact port byte = over_exact _ b _ _ (take_ruled port byte)

  pub tick_exact : (port : ℕ) → BytesAnswers b (λ s l. TickAnswers s l port) (tick_bytes b port).answer
  unfolding tick_bytes
  tick_exact port = over_exact _ b _ _ (tick_ruled port)

  pub give_exact : (port : ℕ) → BytesAnswers b (λ s l. GiveAnswers s l port) (give_bytes b port).answer
  unfolding give_bytes
  give_exact port = over_exact _ b _ _ (give_ruled port)

  pub press_exact : (code : ℕ) → BytesAnswers b (λ s l. PressAnswers s l) (press_bytes b code).answer
  unfolding press_bytes
  press_exact code = over_exact _ b _ _ (press_ruled code)

  pub take_left : (port byte : ℕ) → LeftRuled b (byte < 256) (take_bytes b port byte)
  unfolding take_bytes
  take_left port byte = over_left _ b _ _ (take_ruled port byte)

  pub tick_left : (port : ℕ) → LeftRuled b (Unit {0}) (tick_bytes b port)
  unfolding tick_bytes
  tick_left port = over_left _ b _ _ (tick_ruled port)

  pub give_left : (port : ℕ) → LeftRuled b (Unit {0}) (give_bytes b port)
  unfolding give_bytes
  give_left port = over_left _ b _ _ (give_ruled port)

  pub press_left : (code : ℕ) → LeftRuled b (Unit {0}) (press_bytes b code)
  unfolding press_bytes
  press_left code = over_left _ b _ _ (press_ruled code)

  -- fresh start
  fresh_by : (P : Left → Type 0) → ((Lengths b → ⊥) → P (left_alone 2 b))
      → (Lengths b → P (left_of (fresh_call fresh_stick (lent_by b)))) → P (fresh_bytes b)
  fresh_by P short fits =
      by_test (buffers_fit b)
      (λ t. let f = lengths_of b t in subst P (sym (fresh_fitting b f)) (fits f))
      (λ t. let n : Lengths b → ⊥ = λ f. true≢false (sym (lengths_true b f) ∙ t) in subst P (sym (fresh_short b n)) (short n))

  fresh_zero : Lengths b → (fresh_call fresh_stick (lent_by b)).answer ≡ 0
  fresh_zero f = ap (λ (o : Outcome). o.answer) (fresh_done (lent_by b) (lent_lengths b f) fresh_stick)

  pub fresh_exact : FreshBytesAnswers b (fresh_bytes b).answer
  fresh_exact = fresh_by (λ l. FreshBytesAnswers b l.answer)
      (λ n. record {
        lengths = (λ e. n, λ m. refl);
        done = (λ e. let z : ◌≡◌ {A = ℕ} 2 0 = e in absurd (omega (arith, z)), λ f. absurd (n f));
        numbers = refl;
      })
      (λ f. record {
        lengths = (λ e n. let z : ◌≡◌ {A = ℕ} 0 2 = sym (fresh_zero f) ∙ e in omega (arith, z), λ n. absurd (n f));
        done = (λ e. f, λ g. fresh_zero f);
        numbers = ap (one_of (0 ∷ 2 ∷ [])) (fresh_zero f);
      })

  pub fresh_left : LeftRuled b (Unit {0}) (fresh_bytes b)
  fresh_left = fresh_by (LeftRuled b (Unit {0}))
      (λ n. refused_ruled b (Unit {0}) 2 (omega arith) (omega arith))
      (λ f. record {
        low = let z = fresh_zero f in omega (arith, z);
        stays = λ w z. absurd (z (fresh_zero f));
        kept = λ k e. left_undamaged (fresh_call fresh_stick (lent_by b))
            (fresh_guarded (lent_by b) (lent_lengths b f) fresh_stick).fits;
        images = fresh_images fresh_stick (lent_by b);
      })

  pub fresh_all : (fresh_bytes b).answer ≡ 0 → (fresh_bytes b).buffers.state ≡ head_of fresh_stick ++ replicate (2 * room_length) 0
  fresh_all = fresh_by (λ l. l.answer ≡ 0 → l.buffers.state ≡ head_of fresh_stick ++ replicate (2 * room_length) 0)
      (λ n e. let z : ◌≡◌ {A = ℕ} 2 0 = e in absurd (omega (arith, z)))
      (λ f e. ap (λ (o : Outcome). (left_of o).buffers.state) (fresh_done (lent_by b) (lent_lengths b f) fresh_stick))

  pub paper_stays : (fresh_bytes b).buffers.paper ≡ b.paper
  paper_stays = fresh_by (λ l. l.buffers.paper ≡ b.paper) (λ n. refl) (λ f. fresh_paper fresh_stick (lent_by b))

  pub tape_stays : (fresh_bytes b).buffers.tape ≡ b.tape
  tape_stays = fresh_by (λ l. l.buffers.tape ≡ b.tape) (λ n. refl) (λ f. fresh_tape fresh_stick (lent_by b))
