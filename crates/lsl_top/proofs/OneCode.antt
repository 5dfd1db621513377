-- Texts have one code.
use Rattle.std.proofs.Common.{◌≡◌, ℕ, true, List, [], ◌∷◌, ◌++◌, refl, ap, ap₂, sym, ◌∙◌, subst}
use Rattle.std.specs.Prelude.{map}
use Rattle.std.proofs.Math.Bool.{Bool-set}
use Rattle.lsl_value.specs.declared.tagged.Value.{Value}
use Rattle.lsl_code.specs.declared.functions.StateCode.{StateCode}
use Rattle.lsl_code.specs.declared.woven_units.Woven.{Woven as Code}
use Rattle.lsl_code.specs.declared.woven_functions.WovenCode.{WovenCode}
use Rattle.lsl_code.specs.Fits.{all_places}
use Rattle.lsl_code.specs.ModeStacks.{tells_modes}
use Rattle.lsl_code.specs.Woven.{is_woven}
use Rattle.lsl_code.specs.WovenBodies.{woven_body}
use Rattle.lsl_tree.specs.Program.{Program}
use Rattle.lsl_meaning.specs.Globals.{initial_globals}
use Rattle.lsl_gen.specs.Programs.{generated_functions, generated_states}
use Rattle.lsl_weave.specs.Weaving.{woven_function}
use Rattle.lsl_build.specs.Codes.{AreCodesOf, HasCode}
use Rattle.lsl_build.proofs.Accepted.{one_program}

abbrev IsWhole : List Value → List StateCode → List WovenCode → Type 0
IsWhole globals states functions = is_woven globals states (map woven_body functions) ≡ true

abbrev HasModes : List WovenCode → Type 0
HasModes functions = all_places tells_modes 0 functions ≡ true

abbrev made : (digest : List ℕ) (globals : List Value) (states : List StateCode) (functions : List WovenCode)
    → IsWhole globals states functions → HasModes functions → Code
made digest globals states functions whole modes = record {
  digest = digest;
  globals = globals;
  states = states;
  functions = functions;
  woven = whole;
  modes = modes;
}

-- it holds in one way
made-one : (digest : List ℕ) (globals : List Value) (states : List StateCode) (functions : List WovenCode)
    (v w : IsWhole globals states functions) (m n : HasModes functions)
    → made digest globals states functions v m ≡ made digest globals states functions w n
made-one digest globals states functions v w m n =
    ap (λ (z : IsWhole globals states functions). made digest globals states functions z m)
    (Bool-set (is_woven globals states (map woven_body functions)) true v w)
    ∙ ap (λ (z : HasModes functions). made digest globals states functions w z)
    (Bool-set (all_places tells_modes 0 functions) true m n)

-- code is what it consists of
same-code : (a b : Code) → a.digest ≡ b.digest → a.globals ≡ b.globals → a.states ≡ b.states
    → a.functions ≡ b.functions → a ≡ b
same-code a b digest globals states functions =
    subst (λ (d : List ℕ). (v : IsWhole b.globals b.states b.functions) (m : HasModes b.functions)
    → a ≡ made d b.globals b.states b.functions v m) digest
    (subst (λ (g : List Value). (v : IsWhole g b.states b.functions) (m : HasModes b.functions)
    → a ≡ made a.digest g b.states b.functions v m) globals
    (subst (λ (s : List StateCode). (v : IsWhole a.globals s b.functions) (m : HasModes b.functions)
    → a ≡ made a.digest a.globals s b.functions v m) states
    (subst (λ (f : List WovenCode). (v : IsWhole a.globals a.states f) (m : HasModes f)
    → a ≡ made a.digest a.globals a.states f v m) functions
    (λ v m. made-one a.digest a.globals a.states a.functions a.woven v a.modes m)))) b.woven b.modes

code-one : (text : List ℕ) (a b : Code) → HasCode text a → HasCode text b → a ≡ b
code-one text a b (p, accepted, x) (q, other, y) =
    let same = one_program text p q accepted other in
    same-code a b (x.digest ∙ sym y.digest)
    (x.globals ∙ ap initial_globals same ∙ sym y.globals)
    (x.states ∙ ap generated_states same ∙ sym y.states)
    (x.functions ∙ ap (λ (program : Program). map woven_function (generated_functions program)) same ∙ sym y.functions)

pub codes-one : (texts : List (List ℕ)) (cs ds : List Code) → AreCodesOf texts cs → AreCodesOf texts ds → cs ≡ ds
codes-one [] [] [] h k = refl
codes-one (t ∷ texts) (c ∷ cs) (d ∷ ds) h k =
    ap₂ (λ (x : Code) (xs : List Code). x ∷ xs) (code-one t c d h.0 k.0) (codes-one texts cs ds h.1 k.1)
codes-one [] (c ∷ cs) ds h k = absurd h
codes-one [] [] (d ∷ ds) h k = absurd k
codes-one (t ∷ texts) [] ds h k = absurd h
codes-one (t ∷ texts) (c ∷ cs) [] h k = absurd k

pub codes-push : (texts : List (List ℕ)) (codes : List Code) (text : List ℕ) (code : Code) → AreCodesOf texts codes
    → HasCode text code → AreCodesOf (texts ++ text ∷ []) (codes ++ code ∷ [])
codes-push [] [] text code h has = (has, tt)
codes-push (t ∷ texts) (c ∷ codes) text code h has = (h.0, codes-push texts codes text code h.1 has)
codes-push [] (c ∷ codes) text code h has = absurd h
codes-push (t ∷ texts) [] text code h has = absurd h
