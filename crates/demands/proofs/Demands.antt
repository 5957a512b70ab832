-- The three demands hold.
-- Assumes nothing.
use mathlib.Core.Path.{◌≡◌, sym, ◌∙◌, ap}
use mathlib.Core.Bool.{true}
use mathlib.Core.List.{List}
use Prim.Native.Nat.{ℕ}
use native.Mathlib.Omega.{arith}
use lib.ListN.{length, take}
use Rattle.handler.specs.Acts.{asks_open}
use Rattle.image.proofs.Chain.{chain_rule}
use Rattle.disk.proofs.Opens.{open_rule}
use Rattle.disk.proofs.Reading.{read_warns}
use Rattle.disk.proofs.Chains.{file_gives}
use Rattle.disk.proofs.Listings.{directory_gives}
use Rattle.chains.proofs.Kept.{kept_rule}
use Rattle.chains.proofs.Walking.{walk_rule}
use Rattle.sound.proofs.Treated.{treats}
use Rattle.layout.specs.Places.{rooms_place, state_length}
use Rattle.layout.specs.Layout.{head_of, stick_in}
use Rattle.layout.specs.Stands.{stands}
use Rattle.layout.specs.InBytes.{Bytes}
use Rattle.layout.proofs.Lengths.{head_length}
use Rattle.layout.proofs.ReadWrite.{read_write, head_stands}
use Rattle.layout.proofs.WriteRead.{head_back}
use Rattle.damage.proofs.Undamaged.{in_bytes}
use Rattle.calls.specs.Returned.{Returned}
use Rattle.serial.proofs.Follows as follow
use Rattle.rules.proofs.Names.{has_eleven}
use Rattle.rules.proofs.FileGets.{file_gets}
use Rattle.rules.proofs.Warned.{request_warns, others_never_warn}
use Rattle.machine.specs.Real.{real}
use Rattle.machine.proofs.Lawful.{lawful}
use Rattle.machine.proofs.Demanded.{one_reading}
use Rattle.machine.proofs.Course.{course}
use Rattle.machine.proofs.Statuses.{statuses, tapes, fields, needs}
use Rattle.demands.specs.Bytes.{bytes}
use Rattle.demands.specs.Told.{lends, image_lent, list_lent, image_left, list_left, number_given}
use Rattle.demands.specs.Demands.{Demands}
use Rattle.demands.proofs.Bytes.{bytes_follow, always_undamaged, always_numbers}
use Rattle.demands.proofs.Translated.{translated}
use Rattle.demands.proofs.Over.{fresh_all, paper_stays, tape_stays}
use Rattle.demands.proofs.Told.{exact, any_still, kept, images_kept, give_says, never_3, call_is}
use Rattle.demands.proofs.Made.{fresh_open, take_open, tick_open, give_open, press_open, translate_open, doctor_open, can_call}
use Rattle.demands.proofs.Run.{linked}

one_head : (x y : List ℕ) → Bytes x → Bytes y → length x ≡ state_length → length y ≡ state_length
    → stands x ≡ true → stands y ≡ true → stick_in x ≡ stick_in y → take rooms_place x ≡ take rooms_place y
one_head x y v w l m s t e = sym (head_back x v s (omega (arith, l))) ∙ ap head_of e ∙ head_back y w t (omega (arith, m))

pub demands : Demands
demands = record {
  fresh_open = fresh_open;
  take_open = take_open;
  tick_open = tick_open;
  give_open = give_open;
  press_open = press_open;
  translate_open = translate_open;
  exactly = exact;
  still = any_still;
  give_says = give_says;
  translates = translated;
  statuses =
      statuses bytes (follow.demand2 real bytes bytes_follow lawful).alone (follow.never_damaged real bytes bytes_follow lawful);
  marks = tapes bytes (follow.never_damaged real bytes bytes_follow lawful);
  fields = fields;
  demand1_run = follow.demand1 real bytes bytes_follow lawful;
  demand2 = follow.demand2 real bytes bytes_follow lawful;
  demand2_course =
      course bytes (follow.demand2 real bytes bytes_follow lawful).later (follow.never_damaged real bytes bytes_follow lawful);
  demand2_needs = needs;
  warns = request_warns;
  others_never_warn = others_never_warn;
  demand3 = follow.demand3 real bytes bytes_follow lawful;
  demand3_unfinished = follow.unfinished real bytes bytes_follow lawful;
  one_reading = one_reading;
  follows = bytes_follow;
  undamaged = always_undamaged;
  never_3 = never_3;
  kept = kept;
  disk_warns = λ place images l. read_warns place images l;
  opens = λ asked place images eleven l. open_rule asked place images l eleven;
  names = λ c l s device d. has_eleven device l.area c.address d.name d.named;
  opens_named =
      λ c l s device d place images w.
      open_rule (asks_open l.number c.iocb d.number c.aux1 c.aux2 d.name) place images w (has_eleven device l.area c.address d.name d.named);
  chains = λ images unit file first. chain_rule images unit file 719 first;
  files = λ images whole unit file first few. file_gives images unit file whole few first;
  file_gets = λ c l s unit file first bytes fit few o chain. file_gets c l s unit file first bytes fit few o chain;
  directories = λ images unit pattern eleven. directory_gives images unit pattern eleven;
  images_kept = images_kept;
  doctor_open = doctor_open;
  doctor_treats = λ o bytes. treats (image_lent o) (list_lent o) (image_left o) (list_left o) (number_given o) o.told bytes;
  doctor_keeps = λ image claimed file. kept_rule image claimed file;
  doctor_walks = λ image. walk_rule image;
  decodes = λ s w rooms. (read_write s rooms w, (head_stands s rooms, head_length s));
  fits_in = in_bytes;
  one_head = one_head;
  fresh_is = λ o. o.told;
  fresh_writes =
      λ o e. ap (λ (x : Returned). x.buffers.state) o.told
      ∙ fresh_all (lends o) (sym (ap (λ (x : Returned). x.number) o.told) ∙ e);
  fresh_spares = λ o. (
    ap (λ (x : Returned). x.buffers.paper) o.told ∙ paper_stays (lends o),
    ap (λ (x : Returned). x.buffers.tape) o.told ∙ tape_stays (lends o),
  );
  call_is = call_is;
  numbers = always_numbers;
  can_call = can_call;
  link = linked;
}
