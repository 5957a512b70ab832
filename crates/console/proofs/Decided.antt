-- Each promise of this crate decides: two outcomes that it allows are equal, and it allows one.
-- Assumes nothing.
use mathlib.Core.Path.{refl, sym, ◌∙◌, ap}
use Rattle.base.specs.Decides.{Decides, Allows}
use Rattle.handler.specs.declared.Got.{Got}
use Rattle.handler.specs.declared.Done.{Done}
use Rattle.handler.specs.Answer.{Answer}
use Rattle.console.specs.Group.{ConsoleGroup}
use Rattle.console.specs.declared.state.Console.{Console}
use Rattle.console.proofs.state.Console.fresh.Kinds as state_fresh_kinds
use Rattle.console.proofs.state.Console.fresh.Reads as state_fresh_reads
use Rattle.console.proofs.state.Console.editor.Kinds as editor_kinds
use Rattle.console.proofs.state.Console.editor.Reads as editor_reads
use Rattle.console.proofs.state.Console.set_editor.Kinds as set_editor_kinds
use Rattle.console.proofs.state.Console.set_editor.Reads as set_editor_reads
use Rattle.console.proofs.state.Console.graphics.Kinds as graphics_kinds
use Rattle.console.proofs.state.Console.graphics.Reads as graphics_reads
use Rattle.console.proofs.state.Console.set_graphics.Kinds as set_graphics_kinds
use Rattle.console.proofs.state.Console.set_graphics.Reads as set_graphics_reads
use Rattle.console.proofs.state.Console.press.Kinds as press_kinds
use Rattle.console.proofs.state.Console.press.Reads as press_reads
use Rattle.console.proofs.each.open_editor.Kinds as open_editor_kinds
use Rattle.console.proofs.each.open_editor.Reads as open_editor_reads
use Rattle.console.proofs.each.open_screen.Kinds as open_screen_kinds
use Rattle.console.proofs.each.open_screen.Reads as open_screen_reads
use Rattle.console.proofs.each.read_editor.Kinds as read_editor_kinds
use Rattle.console.proofs.each.read_editor.Reads as read_editor_reads
use Rattle.console.proofs.each.read_screen.Kinds as read_screen_kinds
use Rattle.console.proofs.each.read_screen.Reads as read_screen_reads
use Rattle.console.proofs.each.read_keyboard.Kinds as read_keyboard_kinds
use Rattle.console.proofs.each.read_keyboard.Reads as read_keyboard_reads
use Rattle.console.proofs.each.write_editor.Kinds as write_editor_kinds
use Rattle.console.proofs.each.write_editor.Reads as write_editor_reads
use Rattle.console.proofs.each.write_screen.Kinds as write_screen_kinds
use Rattle.console.proofs.each.write_screen.Reads as write_screen_reads

pub state_fresh_decides : Decides state_fresh_kinds.ps state_fresh_kinds.r state_fresh_reads.Pre state_fresh_reads.Learnt
state_fresh_decides κs a z z' ws ws' p e e' = (e ∙ sym e', refl)

pub state_fresh_allows : Allows state_fresh_kinds.ps state_fresh_kinds.r state_fresh_reads.Pre state_fresh_reads.Learnt
state_fresh_allows κs a p = (_, (_, refl))

pub editor_decides : Decides editor_kinds.ps editor_kinds.r editor_reads.Pre editor_reads.Learnt
editor_decides κs a z z' ws ws' p e e' = (e ∙ sym e', refl)

pub editor_allows : Allows editor_kinds.ps editor_kinds.r editor_reads.Pre editor_reads.Learnt
editor_allows κs a p = (_, (_, refl))

pub set_editor_decides : Decides set_editor_kinds.ps set_editor_kinds.r set_editor_reads.Pre set_editor_reads.Learnt
set_editor_decides κs a z z' ws ws' p e e' = (refl, ap (λ (c : Console). (c, (tt, tt))) (e ∙ sym e'))

pub set_editor_allows : Allows set_editor_kinds.ps set_editor_kinds.r set_editor_reads.Pre set_editor_reads.Learnt
set_editor_allows κs a p = (_, (_, refl))

pub graphics_decides : Decides graphics_kinds.ps graphics_kinds.r graphics_reads.Pre graphics_reads.Learnt
graphics_decides κs a z z' ws ws' p e e' = (e ∙ sym e', refl)

pub graphics_allows : Allows graphics_kinds.ps graphics_kinds.r graphics_reads.Pre graphics_reads.Learnt
graphics_allows κs a p = (_, (_, refl))

pub set_graphics_decides : Decides set_graphics_kinds.ps set_graphics_kinds.r set_graphics_reads.Pre set_graphics_reads.Learnt
set_graphics_decides κs a z z' ws ws' p e e' = (refl, ap (λ (c : Console). (c, (tt, tt))) (e ∙ sym e'))

pub set_graphics_allows : Allows set_graphics_kinds.ps set_graphics_kinds.r set_graphics_reads.Pre set_graphics_reads.Learnt
set_graphics_allows κs a p = (_, (_, refl))

pub press_decides : Decides press_kinds.ps press_kinds.r press_reads.Pre press_reads.Learnt
press_decides κs a z z' ws ws' p e e' = (refl, ap (λ (c : Console). (c, (tt, tt))) (e ∙ sym e'))

pub press_allows : Allows press_kinds.ps press_kinds.r press_reads.Pre press_reads.Learnt
press_allows κs a p = (_, (_, refl))

pub open_editor_decides : Decides open_editor_kinds.ps open_editor_kinds.r open_editor_reads.Pre open_editor_reads.Learnt
open_editor_decides κs a z z' ws ws' p e e' = (refl, ap (λ (w : ConsoleGroup). (w.console, (w.screen, tt))) (e ∙ sym e'))

pub open_editor_allows : Allows open_editor_kinds.ps open_editor_kinds.r open_editor_reads.Pre open_editor_reads.Learnt
open_editor_allows κs a p = (_, (_, refl))

pub open_screen_decides : Decides open_screen_kinds.ps open_screen_kinds.r open_screen_reads.Pre open_screen_reads.Learnt
open_screen_decides κs a z z' ws ws' p e e' = let q = e ∙ sym e' in (ap (λ (w : Answer Done ConsoleGroup). w.says) q, ap (λ (w : Answer Done ConsoleGroup). (w.leaves.console, (w.leaves.screen, (tt, (tt, tt))))) q)

pub open_screen_allows : Allows open_screen_kinds.ps open_screen_kinds.r open_screen_reads.Pre open_screen_reads.Learnt
open_screen_allows κs a p = (_, (_, refl))

pub read_editor_decides : Decides read_editor_kinds.ps read_editor_kinds.r read_editor_reads.Pre read_editor_reads.Learnt
read_editor_decides κs a z z' ws ws' p e e' = let q = e ∙ sym e' in (ap (λ (w : Answer Got ConsoleGroup). w.says) q, ap (λ (w : Answer Got ConsoleGroup). (w.leaves.console, (w.leaves.screen, tt))) q)

pub read_editor_allows : Allows read_editor_kinds.ps read_editor_kinds.r read_editor_reads.Pre read_editor_reads.Learnt
read_editor_allows κs a p = (_, (_, refl))

pub read_screen_decides : Decides read_screen_kinds.ps read_screen_kinds.r read_screen_reads.Pre read_screen_reads.Learnt
read_screen_decides κs a z z' ws ws' p e e' = let q = e ∙ sym e' in (ap (λ (w : Answer Got Console). w.says) q, ap (λ (w : Answer Got Console). (w.leaves, (tt, tt))) q)

pub read_screen_allows : Allows read_screen_kinds.ps read_screen_kinds.r read_screen_reads.Pre read_screen_reads.Learnt
read_screen_allows κs a p = (_, (_, refl))

pub read_keyboard_decides : Decides read_keyboard_kinds.ps read_keyboard_kinds.r read_keyboard_reads.Pre read_keyboard_reads.Learnt
read_keyboard_decides κs a z z' ws ws' p e e' = let q = e ∙ sym e' in (ap (λ (w : Answer Got Console). w.says) q, ap (λ (w : Answer Got Console). (w.leaves, tt)) q)

pub read_keyboard_allows : Allows read_keyboard_kinds.ps read_keyboard_kinds.r read_keyboard_reads.Pre read_keyboard_reads.Learnt
read_keyboard_allows κs a p = (_, (_, refl))

pub write_editor_decides : Decides write_editor_kinds.ps write_editor_kinds.r write_editor_reads.Pre write_editor_reads.Learnt
write_editor_decides κs a z z' ws ws' p e e' = let q = e ∙ sym e' in (ap (λ (w : Answer Done ConsoleGroup). w.says) q, ap (λ (w : Answer Done ConsoleGroup). (w.leaves.console, (w.leaves.screen, (tt, tt)))) q)

pub write_editor_allows : Allows write_editor_kinds.ps write_editor_kinds.r write_editor_reads.Pre write_editor_reads.Learnt
write_editor_allows κs a p = (_, (_, refl))

pub write_screen_decides : Decides write_screen_kinds.ps write_screen_kinds.r write_screen_reads.Pre write_screen_reads.Learnt
write_screen_decides κs a z z' ws ws' p e e' = let q = e ∙ sym e' in (ap (λ (w : Answer Done ConsoleGroup). w.says) q, ap (λ (w : Answer Done ConsoleGroup). (w.leaves.console, (w.leaves.screen, (tt, tt)))) q)

pub write_screen_allows : Allows write_screen_kinds.ps write_screen_kinds.r write_screen_reads.Pre write_screen_reads.Learnt
write_screen_allows κs a p = (_, (_, refl))
