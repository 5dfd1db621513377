-- What programs mean is what their code means.
use Rattle.std.proofs.Common.{◌≡◌, ℕ, zero, suc, ◌+◌, ◌<◌, ◌≤◌, List, [], ◌∷◌, length, refl, ap, sym, ◌∙◌, arith}
use Rattle.std.specs.Prelude.{Option, Some, cond, slice_get}
use Rattle.lsl_value.specs.declared.names.EventId.{EventId}
use Rattle.lsl_value.specs.declared.tagged.Value.{Value}
use Rattle.lsl_tree.specs.Program.{EventRoutine, ProgramState, Program}
use Rattle.lsl_running.specs.declared.host.Reply.{Reply}
use Rattle.lsl_running.specs.declared.kept.Kept.{Kept}
use Rattle.lsl_code.specs.declared.woven_units.Woven.{Woven as Code}
use Rattle.lsl_code.specs.Units.{handler_in as handler_in_code, handler_of, same_event}
use Rattle.lsl_code.specs.Wholes.{whole_of_bodies}
use Rattle.lsl_gen.specs.Programs.{numbered_handlers, numbered_states}
use Rattle.lsl_script.specs.Codes.{Meant, bodies_in, globals_in, handler_in_unit, most_asks, rules_of as rules_of_codes}
use Rattle.lsl_world.specs.Codes.{AreRunBy, IsRunBy}
use Rattle.lsl_world.specs.Programs.{handler_among, handler_in, handler_in_states, initial_in, most_in, rules_of, whole_in_program}

pub among-numbered : (n : ℕ) (hs : List EventRoutine) (id : EventId)
    → handler_among n hs id ≡ handler_in_code (numbered_handlers n hs) id
among-numbered n [] id = refl
among-numbered n (h ∷ hs) id =
    ap (λ (o : Option ℕ). cond (same_event h.event id) (Some n) o) (among-numbered (suc n) hs id)

pub states-numbered : (n : ℕ) (states : List ProgramState) (state : ℕ) (id : EventId)
    → handler_in_states n states state id ≡ handler_of (numbered_states n states) state id
states-numbered n [] state id = refl
states-numbered n (s ∷ states) zero id = among-numbered n s.handlers id
states-numbered n (s ∷ states) (suc state) id = states-numbered (n + length s.handlers) states state id

-- the program and the code of one number
pub record Pair (programs : List Program) (codes : List Code) (n : ℕ) : Type 0 where
  pub program : Program
  pub code : Code
  pub has_program : slice_get programs n ≡ Some program
  pub has_code : slice_get codes n ≡ Some code
  pub runs : IsRunBy program code

pub pair : (programs : List Program) (codes : List Code) (n : ℕ) → AreRunBy programs codes → n < length codes
    → Pair programs codes n
pair [] [] n all h = absurd (omega (arith, h))
pair [] (c ∷ codes) n all h = absurd all
pair (p ∷ programs) [] n all h = absurd all
pair (p ∷ programs) (c ∷ codes) zero all h =
    record { program = p; code = c; has_program = refl; has_code = refl; runs = all.0 }
pair (p ∷ programs) (c ∷ codes) (suc n) all h =
    let k = pair programs codes n all.1 (omega (arith, h)) in
    record {
      program = k.program;
      code = k.code;
      has_program = k.has_program;
      has_code = k.has_code;
      runs = k.runs;
    }

module _ (programs : List Program) (codes : List Code) (all : AreRunBy programs codes) where
  pub handlers-are : (code state : ℕ) (id : EventId) → code < length codes
      → (rules_of programs).handler code state id ≡ (rules_of_codes codes).handler code state id
  handlers-are code state id h =
      let k = pair programs codes code all h in
      ap (λ (o : Option Program). handler_in o state id) k.has_program
      ∙ states-numbered (length k.program.functions) k.program.states state id
      ∙ ap (λ states. handler_of states state id) (sym k.runs.states)
      ∙ ap (λ (o : Option Code). handler_in_unit o state id) (sym k.has_code)

  pub initials-are : (code : ℕ) → code < length codes
      → (rules_of programs).initial code ≡ (rules_of_codes codes).initial code
  initials-are code h =
      let k = pair programs codes code all h in
      ap initial_in k.has_program ∙ sym k.runs.globals ∙ ap globals_in (sym k.has_code)

  pub wholes-are : (code routine : ℕ) (kept : Kept) (args : List Value) (ticks : ℕ) (answers : List Reply)
      → code < length codes
      → (rules_of programs).whole code routine kept args ticks answers
      ≡ (rules_of_codes codes).whole code routine kept args ticks answers
  wholes-are code routine kept args ticks answers h =
      let k = pair programs codes code all h in
      ap (λ (o : Option Program). whole_in_program o routine kept args ticks answers) k.has_program
      ∙ sym (k.runs.meaning routine kept args ticks answers)
      ∙ ap (λ (o : Option Code). whole_of_bodies (bodies_in o) routine kept args ticks answers) (sym k.has_code)

  pub asks-are : (code : ℕ) → code < length codes → (rules_of_codes codes).most code ≤ (rules_of programs).most code
  asks-are code h =
      let k = pair programs codes code all h in
      omega (
        arith,
        ap most_in k.has_program,
        ap (λ (o : Option Code). most_asks (bodies_in o)) k.has_code,
        k.runs.asks,
      )

-- what the programs mean is what their code means
abbrev pub meant : (programs : List Program) (codes : List Code) → AreRunBy programs codes → Meant codes
meant programs codes all = record {
  rules = rules_of programs;
  handler = λ code state id h. handlers-are programs codes all code state id h;
  initial = λ code h. initials-are programs codes all code h;
  whole = λ code routine kept args ticks answers h.
      wholes-are programs codes all code routine kept args ticks answers h;
  most = λ code h. asks-are programs codes all code h;
}
