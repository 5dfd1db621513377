-- What a function of the parser returned is what reading gives, unless memory ran out.
use Rattle.std.specs.Prelude.{◌≡◌, Bool, cond, List, Result, Ok, Err}
use Rattle.lsl_lex.specs.declared.token_types.Token.{Token}
use Rattle.lsl_text.specs.declared.Refusal.{Refusal}
use Rattle.lsl_text.specs.declared.Refusal.TheVariants as refusal
use Rattle.lsl_grammar.specs.declared.Why.{Why}
use Rattle.lsl_grammar.specs.declared.Why.TheVariants.{TooDeep}
use Rattle.lsl_grammar.specs.Reading.{Read}
use Rattle.lsl_read.specs.declared.stop.Stop.{Stop}

abbrev pub Fails : {Y : Type 0} → Refusal Stop → Read Token Y → Type 0
Fails refusal.NoMemory read = Unit {0}
Fails (refusal.Fault s) read = read ≡ Err (s.why, s.rest.now)

abbrev pub Parses : {X Y : Type 0} → (X → Y × List Token) → Result X (Refusal Stop) → Read Token Y → Type 0
Parses view (Ok x) read = read ≡ Ok (view x)
Parses view (Err e) read = Fails e read

-- what would begin here is too deep; if nothing would begin, this is the reason
abbrev pub too_deep_or_at : Bool → Why → List Token → Why × List Token
too_deep_or_at begins why ts = cond begins (TooDeep, ts) (why, ts)
