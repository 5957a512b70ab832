-- The statuses of document 01's tables are given in every run of a core that does each request as it is done alone.
-- Assumes nothing.
use mathlib.Core.Path.{◌≡◌, ◌∙◌, refl, sym, ap, subst}
use mathlib.Core.Logic.{◌↔◌}
use mathlib.Core.List.{List, ◌∷◌}
use Prim.Native.Nat.{ℕ, suc}
use native.Mathlib.Omega.{arith}
use Rattle.wire.specs.declared.Message.{Message}
use Rattle.wire.specs.declared.Message.TheVariants as message
use Rattle.wire.specs.Messages.{word_of, header_of, message_of}
use Rattle.wire.proofs.Fields.{field_statuses}
use Rattle.replies.specs.Replies.{fetch_reply}
use Rattle.devices.specs.Groups.{Groups}
use Rattle.devices.specs.Fit.{FitGroups}
use Rattle.plan.specs.Plan.{plan_in, plan_of}
use Rattle.alone.specs.Alone.{Said, call, load, fetch, bad, said_of, Local, alone_errand, alone_plan, alone_of}
use Rattle.alone.specs.Fit.{FitLocal}
use Rattle.serial.specs.Machine.{PortName, port-0, port-1, Two, at, set}
use Rattle.serial.specs.Core.{replying, PortView, View, local_at, locals, Core}
use Rattle.serial.specs.Undamaged.{NeverDamaged}
use Rattle.serial.specs.Demand2.{AloneRule}
use Rattle.serial.specs.Demand3.{bytes_of}
use Rattle.rules.specs.Statuses.{MarkedAs}
use Rattle.rules.proofs.Marks.{marks_swap, marked_as, tape_open_is}
use Rattle.rules.proofs.Statuses.{call_statuses, call_replies, call_blocks, call_shape, call_needs, load_replies, fetch_replies}
use Rattle.machine.specs.Spells.{said_by}
use Rattle.machine.specs.Real.{reply_by, FitAll, real}
use Rattle.machine.specs.Statuses.{RepliesTo, RepliesWith, StatusRule, MarkRule, FieldRule, FieldsRule, NeedsRule}
use Rattle.machine.proofs.Course.{fit_mine}

-- a reply that is not empty is its first byte and the rest
back : (reply : List ℕ) (byte : ℕ) (bytes : List ℕ) → reply ≡ byte ∷ bytes → bytes_of real (reply_by reply) ≡ reply
back reply byte bytes e = ap (λ (r : List ℕ). bytes_of real (reply_by r)) e ∙ sym e

whole_reply : (m : Said) (l : Local) (s : Groups) → FitLocal l → FitGroups s → MarkedAs l s → bytes_of real (reply_by (alone_of m l s).reply) ≡ (alone_of m l s).reply
unfolding alone_of plan_of plan_in alone_plan alone_errand fetch_reply
whole_reply (call c) l s fl fg mk = back _ 0x90 _ (call_shape c l s fl fg mk).says
whole_reply (load address bytes) l s fl fg mk = refl
whole_reply (fetch address count) l s fl fg mk = refl
whole_reply (bad status) l s fl fg mk = refl

replies : (m : Said) (l : Local) (s : Groups) → FitLocal l → FitGroups s → MarkedAs l s → RepliesTo m l s (alone_of m l s).local (alone_of m l s).groups (alone_of m l s).reply
unfolding alone_of plan_of plan_in alone_plan alone_errand
replies (call c) l s fl fg mk = (call_statuses c l s fl fg mk, (call_replies c l s fl fg mk, call_blocks c l s fl fg mk))
replies (load address bytes) l s fl fg mk = (load_replies address bytes l s fl, refl)
replies (fetch address count) l s fl fg mk = (fetch_replies address count l s, (refl, refl))
replies (bad status) l s fl fg mk = (refl, (refl, refl))

-- a port that has been set
set_at : (p : PortName) (x : PortView real) (t : Two (PortView real)) → at p (set p x t) ≡ x
set_at port-0 x t = refl
set_at port-1 x t = refl

-- the port and the devices after a request that is done as it is done alone
done_alone : (m : Said) (l : Local) (s : Groups) → FitLocal l → FitGroups s → MarkedAs l s
    → RepliesWith m l s (record { local = (alone_of m l s).local; phase = replying (reply_by (alone_of m l s).reply) }) (alone_of m l s).groups
done_alone m l s fl fg mk = record {
  reply = reply_by (alone_of m l s).reply;
  made = refl;
  says = subst (RepliesTo m l s (alone_of m l s).local (alone_of m l s).groups) (sym (whole_reply m l s fl fg mk)) (replies m l s fl fg mk);
}

-- the cassette's mark is that of the port's block that has C open
mine_marked : (p : PortName) (v : View real) → FitAll (locals real v) v.devs → MarkedAs (local_at real p v) v.devs
mine_marked port-0 v f = marked_as v.ports.zeroth.local v.ports.first.local.table v.devs f.marks
mine_marked port-1 v f =
    let t = v.ports.zeroth.local.table in
    let l = v.ports.first.local in
    marked_as l t v.devs (marks_swap v.devs.cassette.cassette.mark t l.table f.marks)

pub statuses : (C : Core real) → AloneRule real C → NeverDamaged real C → StatusRule C
statuses C alone u w r p m e n =
    let v = C.see w in
    let l = local_at real p v in
    let f = (u w r).fit in
    let own : PortView real = record { local = (alone_of m l v.devs).local; phase = replying (reply_by (alone_of m l v.devs).reply) } in
    let stands = alone w r p m e n in
    subst (λ (view : View real). RepliesWith m l v.devs (at p view.ports) view.devs) (sym stands)
    (subst (λ (port : PortView real). RepliesWith m l v.devs port (alone_of m l v.devs).groups) (sym (set_at p own v.ports))
    (done_alone m l v.devs (fit_mine p v f) f.groups (mine_marked p v f)))

-- "while any block of either port has C open"
pub tapes : (C : Core real) → NeverDamaged real C → MarkRule C
tapes C u w r = let f = (u w r).fit in let v = C.see w in tape_open_is v.ports.zeroth.local.table v.ports.first.local.table v.devs f.zeroth.eight f.first.eight f.marks

pub needs : NeedsRule
unfolding plan_of plan_in
needs = record {
  calls = λ c l s. call_needs c l s;
  loads = λ address bytes l. refl;
  fetches = λ address count l. refl;
  refused = λ status l. refl;
}

-- one more than the status that a message is refused with; 0 where it is not
abbrev refusal : Message → ℕ
refusal (message.Call c) = 0
refusal (message.Load address size) = 0
refusal (message.Fetch address count) = 0
refusal (message.Bad status) = suc status

abbrev said_refusal : Said → ℕ
said_refusal (call c) = 0
said_refusal (load address bytes) = 0
said_refusal (fetch address count) = 0
said_refusal (bad status) = suc status

-- what a message says is refused exactly when the message is
said_bad : (m : Message) (value : List ℕ) (status : ℕ) → (said_of m value ≡ bad status) ↔ (m ≡ message.Bad status)
said_bad (message.Call c) value status = (λ e. absurd (omega (arith, ap said_refusal e)), λ e. absurd (omega (arith, ap refusal e)))
said_bad (message.Load address size) value status = (λ e. absurd (omega (arith, ap said_refusal e)), λ e. absurd (omega (arith, ap refusal e)))
said_bad (message.Fetch address count) value status = (λ e. absurd (omega (arith, ap said_refusal e)), λ e. absurd (omega (arith, ap refusal e)))
said_bad (message.Bad given) value status =
    (λ e. ap message.Bad (omega (arith, ap said_refusal e)), λ e. ap bad (omega (arith, ap refusal e)))

field_rule : (tag size : ℕ) (value : List ℕ) → FieldRule tag size (said_by tag size value)
field_rule tag size value =
    let f = field_statuses tag size value in
    let m = message_of (header_of tag size) value in
    record {
      unknown = (λ e. f.unknown.0 ((said_bad m value 0x92).0 e), λ n. (said_bad m value 0x92).1 (f.unknown.1 n));
      wrong = (λ e. f.wrong.0 ((said_bad m value 0x84).0 e), λ n. (said_bad m value 0x84).1 (f.wrong.1 n));
      good = λ g status e. f.good g status ((said_bad m value status).0 e);
    }

pub fields : FieldsRule
fields bytes said s = subst (FieldRule s.tag (word_of s.low s.high)) (sym s.says) (field_rule s.tag (word_of s.low s.high) s.value)
