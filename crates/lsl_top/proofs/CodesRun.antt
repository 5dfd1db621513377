-- The code of accepted texts runs as their programs mean, and keeps the names of their functions.
use Rattle.std.proofs.Common.{◌≡◌, ◌∙◌, refl, ap, subst, arith, ℕ, zero, suc, ◌+◌, ◌<◌, ◌≤◌, List, [], ◌∷◌, ◌++◌, length, length-append, Some, slice_get}
use Rattle.std.specs.Prelude.{All, map, option_map}
use Rattle.std.proofs.lemmas.List.Elements.{All-append, All-cons, All-nil}
use Rattle.std.proofs.lemmas.Option.{slice_get-map}
use Rattle.lsl_table.specs.Events.{event_name_of}
use Rattle.lsl_tree.specs.Kinded.{IsKinded}
use Rattle.lsl_tree.specs.Program.{EventRoutine, NamedRoutine, Program, ProgramState, Routine}
use Rattle.lsl_tree.specs.Shape.{IsShaped}
use Rattle.lsl_tree.specs.Signatures.{handlers_of}
use Rattle.lsl_meaning.specs.Globals.{initial_globals}
use Rattle.lsl_code.specs.declared.functions.FunctionCode.{FunctionCode}
use Rattle.lsl_code.specs.declared.instructions.Instr.{Instr}
use Rattle.lsl_code.specs.declared.instructions.Instr.TheVariants.{Tick, Call, Unpack, Branch}
use Rattle.lsl_code.specs.declared.signatures.Names.{Names}
use Rattle.lsl_code.specs.declared.woven_functions.WovenCode.{WovenCode}
use Rattle.lsl_code.specs.declared.woven_units.Woven.{Woven as Code}
use Rattle.lsl_code.specs.Bodies.{Body, plain_body}
use Rattle.lsl_code.specs.ModeStacks.{flat}
use Rattle.lsl_code.specs.Wholes.{whole_of_bodies}
use Rattle.lsl_code.specs.WovenBodies.{woven_body}
use Rattle.lsl_code.proofs.Numbering.{numbered_length}
use Rattle.lsl_code.proofs.UnitTold.{woven_tells}
use Rattle.lsl_gen.specs.Laws.{HasShortCode}
use Rattle.lsl_gen.specs.Programs.{IsShort, draft_of, functions_made, generated_functions, generated_states, handlers_made, made_by, names_of, numbered_states}
use Rattle.lsl_gen.proofs.Fitting.{unit_fits}
use Rattle.lsl_gen.proofs.Generated.{generated_agrees}
use Rattle.lsl_weave.specs.Layout.{all_woven, back_block, main, offset, save_block, table, width, woven_code}
use Rattle.lsl_weave.specs.Weaving.{woven_function}
use Rattle.lsl_weave.proofs.Placing.{flat_length, main_length}
use Rattle.lsl_weave.proofs.Units.{units_come_to_same}
use Rattle.lsl_type.proofs.ProgramKinds.{script_sound}
use Rattle.lsl_type.proofs.ScriptLemmas.{script_decides}
use Rattle.lsl_build.specs.Accepted.{Accepted}
use Rattle.lsl_build.specs.Codes.{AreCodesOf, IsCodeOf}
use Rattle.lsl_build.proofs.Accepted.{one_program}
use Rattle.lsl_build.proofs.Asks.{few_asks}
use Rattle.lsl_view.specs.Names.{AreNamedBy}
use Rattle.lsl_view.proofs.CodeNames.{compiled_code_is_named}
use Rattle.lsl_world.specs.Codes.{AreRunBy, IsRunBy}
use Rattle.lsl_top.specs.Scripts.{AreAccepted}

-- ---- woven code is no shorter, so plain code has numbers for its places too

width-some : (code : List Instr) → length code ≤ offset width code (length code)
width-some [] = omega arith
width-some (i ∷ code) = omega (arith, wide i, width-some code)
  where
    wide : (i : Instr) → 1 ≤ width i
    wide (Tick p) = omega arith
    wide (Call f p) = omega arith
    wide _ = omega arith

code-longer : (b : Body) → length b.code ≤ length (woven_code b)
code-longer b =
    omega (
      arith,
      width-some b.code,
      length-append (flat (main b) 0 b.code)
          (flat (save_block b) 0 b.points
          ++ (Unpack ∷ Branch ∷ (flat (table b) 0 b.points ++ flat (back_block b) 0 b.points))),
      flat_length (main b) width (main_length b) 0 b.code,
    )

-- each of these functions is short
abbrev AreShort : List FunctionCode → Type 0
AreShort functions =
    (n : ℕ) (f : FunctionCode) → slice_get functions n ≡ Some f → length f.code < 4294967296

short-of : (names : Names) (name : List ℕ) (r : Routine) → length (made_by names name r).code < 4294967296 → IsShort r
short-of names name r lt = omega (arith, lt, numbered_length (draft_of r) 0)

functions-short : (names : Names) (fs : List NamedRoutine) → AreShort (functions_made names fs)
    → All IsShort (map (λ (f : NamedRoutine). f.routine) fs)
functions-short names [] h = All-nil IsShort
functions-short names (f ∷ fs) h =
    All-cons IsShort f.routine (map (λ (f : NamedRoutine). f.routine) fs)
    (short-of names f.name f.routine (h 0 _ refl)) (functions-short names fs (λ n g at. h (suc n) g at))

handlers-short : (names : Names) (hs : List EventRoutine) → AreShort (handlers_made names hs)
    → All IsShort (map (λ (h : EventRoutine). h.routine) hs)
handlers-short names [] h = All-nil IsShort
handlers-short names (x ∷ hs) h =
    All-cons IsShort x.routine (map (λ (h : EventRoutine). h.routine) hs)
    (short-of names (event_name_of x.event) x.routine (h 0 _ refl)) (handlers-short names hs (λ n g at. h (suc n) g at))

front-short : (xs ys : List FunctionCode) → AreShort (xs ++ ys) → AreShort xs
front-short [] ys h n f at = absurd (cc)
front-short (x ∷ xs) ys h zero f at = h zero f at
front-short (x ∷ xs) ys h (suc n) f at = front-short xs ys (λ k g there. h (suc k) g there) n f at

back-short : (xs ys : List FunctionCode) → AreShort (xs ++ ys) → AreShort ys
back-short [] ys h = h
back-short (x ∷ xs) ys h = back-short xs ys (λ n f at. h (suc n) f at)

states-long : (n : ℕ) (states : List ProgramState) → length (numbered_states n states) ≡ length states
states-long n [] = refl
states-long n (s ∷ states) = ap suc (states-long (n + length s.handlers) states)

bodies-made : (functions : List FunctionCode)
    → map woven_body (map woven_function functions) ≡ all_woven (map plain_body functions)
bodies-made [] = refl
bodies-made (f ∷ functions) = ap (λ (l : List Body). woven_body (woven_function f) ∷ l) (bodies-made functions)

module _ (text : List ℕ) (p : Program) (code : Code) (is : IsCodeOf text p code) where
  generated-short : AreShort (generated_functions p)
  generated-short n f at =
      let told = woven_tells code.globals code.states (map woven_body code.functions) code.woven in
      let there : slice_get (map woven_body code.functions) n ≡ Some (woven_body (woven_function f)) =
      ap (λ (fs : List WovenCode). slice_get (map woven_body fs) n) is.functions
      ∙ slice_get-map woven_body (map woven_function (generated_functions p)) n
      ∙ ap (option_map woven_body) (slice_get-map woven_function (generated_functions p) n
      ∙ ap (option_map woven_function) at) in
      omega (
        arith,
        (told.functions n (woven_body (woven_function f)) there).short,
        code-longer (plain_body f),
      )

  short-code : HasShortCode p
  short-code =
      let functions = functions_made (names_of p) p.functions in
      let handlers = handlers_made (names_of p) (handlers_of p.states) in
      let told = woven_tells code.globals code.states (map woven_body code.functions) code.woven in
      record {
        routines = All-append IsShort (map (λ (f : NamedRoutine). f.routine) p.functions)
            (map (λ (h : EventRoutine). h.routine) (handlers_of p.states))
            (functions-short (names_of p) p.functions (front-short functions handlers generated-short))
            (handlers-short (names_of p) (handlers_of p.states) (back-short functions handlers generated-short));
        states = omega (arith, told.few_states, ap length is.states, states-long (length p.functions) p.states);
      }

  code-runs : Accepted text p → IsRunBy p code
  code-runs (script, accepted) =
      let sound = (script_sound script).ok p ((script_decides script).types p accepted.typed) in
      let shaped : IsShaped p = sound.0 in
      let kinded : IsKinded p = sound.1 in
      let plain = map plain_body (generated_functions p) in
      let fits = unit_fits p kinded shaped short-code in
      let bodies : map woven_body code.functions ≡ all_woven plain =
      ap (map woven_body) is.functions ∙ bodies-made (generated_functions p) in
      record {
        globals = is.globals;
        states = is.states;
        meaning = λ number kept arguments ticks answers.
            ap (λ (bs : List Body). whole_of_bodies bs number kept arguments ticks answers) bodies
            ∙ units_come_to_same (initial_globals p) (generated_states p) plain fits number kept arguments ticks answers
            ∙ generated_agrees p kinded shaped number kept arguments ticks answers;
        asks = few_asks p code is.functions;
        kinded = kinded;
        shaped = shaped;
      }

pub codes-run : (texts : List (List ℕ)) (programs : List Program) (codes : List Code) → AreAccepted texts programs
    → AreCodesOf texts codes → AreRunBy programs codes
codes-run [] [] [] a h = tt
codes-run (t ∷ texts) (p ∷ programs) (c ∷ codes) a h =
    let (q, accepted, is) = h.0 in (
      code-runs t p c (subst (λ (z : Program). IsCodeOf t z c) (one_program t q p accepted a.0) is) a.0,
      codes-run texts programs codes a.1 h.1,
    )
codes-run [] (p ∷ programs) codes a h = absurd a
codes-run (t ∷ texts) [] codes a h = absurd a
codes-run [] [] (c ∷ codes) a h = absurd h
codes-run (t ∷ texts) (p ∷ programs) [] a h = absurd h

pub codes-named : (texts : List (List ℕ)) (programs : List Program) (codes : List Code) → AreAccepted texts programs
    → AreCodesOf texts codes → AreNamedBy programs codes
codes-named [] [] [] a h = tt
codes-named (t ∷ texts) (p ∷ programs) (c ∷ codes) a h =
    let (q, accepted, is) = h.0 in (
      compiled_code_is_named p c
          (subst (λ (z : Program). IsCodeOf t z c) (one_program t q p accepted a.0) is).functions,
      codes-named texts programs codes a.1 h.1,
    )
codes-named [] (p ∷ programs) codes a h = absurd a
codes-named (t ∷ texts) [] codes a h = absurd a
codes-named [] [] (c ∷ codes) a h = absurd h
codes-named (t ∷ texts) (p ∷ programs) [] a h = absurd h
