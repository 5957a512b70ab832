-- What a call leaves in the media is what its caller has then: the buffers that were lent on come back.
-- Assumes nothing.
use mathlib.Core.Path.{◌≡◌, ◌∙◌, sym, ap}
use mathlib.Core.List.{List}
use Prim.Native.Nat.{ℕ}
use denote.MutBor.{MutBor}
use base.Fml.{GName}
use Rattle.devices.specs.declared.Media.{Media}
use Rattle.devices.specs.Media.{SameBuffers}
use Rattle.calls.specs.Bytes.{buffers, buffers_in}
use Rattle.calls.specs.Returned.{Returned, returned}

-- the media that a call lends on: its own buffers, each under the name of this loan
abbrev pub media_of : (screen paper tape images : MutBor (List ℕ)) → (s p t : GName) → Media
media_of screen paper tape images s p t = record {
  screen = record screen { ghost_name = s };
  paper = record paper { ghost_name = p };
  tape = record tape { ghost_name = t };
  images = record { ref_ptr = images.ref_ptr; now = images.now };
}

module _ (screen paper tape images : MutBor (List ℕ)) (n m k : GName) (new : Media) (same : SameBuffers new (media_of screen paper tape images n m k))
    (s' p' t' : List ℕ) (s : n ≡ new.screen.ghost_name → s' ≡ new.screen.now) (p : m ≡ new.paper.ghost_name → p' ≡ new.paper.now)
    (t : k ≡ new.tape.ghost_name → t' ≡ new.tape.now) where
  pub comes_back : (answer : ℕ) (state area : List ℕ) (x : Returned) → returned answer (buffers_in state area new) ≡ x
      → returned answer (buffers state area s' p' t' images.now) ≡ x
  comes_back answer state area x q =
      ap (λ (b : List ℕ). returned answer (buffers state area b p' t' images.now)) (s (sym (ap (λ (w : Media). w.screen.ghost_name) same)))
      ∙ ap (λ (b : List ℕ). returned answer (buffers state area new.screen.now b t' images.now)) (p (sym (ap (λ (w : Media). w.paper.ghost_name) same)))
      ∙ ap (λ (b : List ℕ). returned answer (buffers state area new.screen.now new.paper.now b images.now)) (t (sym (ap (λ (w : Media). w.tape.ghost_name) same)))
      ∙ ap (λ (b : List ℕ). returned answer (buffers state area new.screen.now new.paper.now new.tape.now b)) (sym (ap (λ (w : Media). w.images.now) same))
      ∙ q
