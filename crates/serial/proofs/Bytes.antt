-- One message, one event or one reply more: what the bytes spell, what was started, what the replies' bytes are.
-- Assumes nothing.
use mathlib.Core.Path.{◌≡◌, refl, sym, ◌∙◌, ap}
use mathlib.Core.List.{List, [], ◌∷◌, ◌++◌, append-nil, append_assoc}
use Rattle.serial.specs.Machine.{PortName, port-0, port-1, other, ReplyBytes, Machine}
use Rattle.serial.specs.Run.{Event, started, pressed}
use Rattle.serial.specs.Demand3.{request_in, requests_of, bytes_of, bytes_of_all}
use Rattle.serial.specs.Reading.{Spelled}

module _ (M : Machine) where
  open M use {Byte, Message, Key, Spells}

  pub spelled_add : (ms : List Message) (bs c : List Byte) (m : Message) → Spelled M ms bs → Spells c m → Spelled M (ms ++ (m ∷ [])) (bs ++ c)
  unfolding Spelled
  spelled_add [] bs c m e s = (c, [], ap (λ z. z ++ c) e ∙ sym (append-nil c), s, refl)
  spelled_add (n ∷ ms) bs c m h s =
      (h.0, h.1 ++ c, ap (λ z. z ++ c) h.2 ∙ append_assoc h.0 h.1 c, h.3, spelled_add ms h.1 c m h.4 s)

  requests_add : (p : PortName) (es : List (Event M)) (e : Event M) → requests_of M p (es ++ (e ∷ [])) ≡ requests_of M p es ++ request_in M p e
  unfolding requests_of
  requests_add p [] e = append-nil (request_in M p e)
  requests_add p (x ∷ es) e = ap (λ t. request_in M p x ++ t) (requests_add p es e) ∙ sym (append_assoc (request_in M p x) _ _)

  pub requests_own : (p : PortName) (es : List (Event M)) (m : Message) → requests_of M p (es ++ (started p m ∷ [])) ≡ requests_of M p es ++ (m ∷ [])
  requests_own port-0 es m = requests_add port-0 es (started port-0 m)
  requests_own port-1 es m = requests_add port-1 es (started port-1 m)

  pub requests_other : (p : PortName) (es : List (Event M)) (m : Message) → requests_of M (other p) (es ++ (started p m ∷ [])) ≡ requests_of M (other p) es
  requests_other port-0 es m = requests_add port-1 es (started port-0 m) ∙ append-nil (requests_of M port-1 es)
  requests_other port-1 es m = requests_add port-0 es (started port-1 m) ∙ append-nil (requests_of M port-0 es)

  pub requests_key : (p : PortName) (es : List (Event M)) (c : Key) → requests_of M p (es ++ (pressed c ∷ [])) ≡ requests_of M p es
  requests_key p es c = requests_add p es (pressed c) ∙ append-nil (requests_of M p es)

  pub bytes_add : (rs : List (ReplyBytes Byte)) (r : ReplyBytes Byte) → bytes_of_all M (rs ++ (r ∷ [])) ≡ bytes_of_all M rs ++ bytes_of M r
  unfolding bytes_of_all
  bytes_add [] r = append-nil (bytes_of M r)
  bytes_add (x ∷ rs) r = ap (λ t. bytes_of M x ++ t) (bytes_add rs r) ∙ sym (append_assoc (bytes_of M x) _ _)
