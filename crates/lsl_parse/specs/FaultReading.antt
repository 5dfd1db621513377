-- The answer that the reader of whole texts gives.
use Rattle.std.specs.Prelude.{◌+◌, nat_lt, cond, Some, List, [], ◌∷◌, length, Result, Ok, Err}
use Rattle.lsl_text.specs.declared.Span.{Span}
use Rattle.lsl_lex.specs.declared.token_types.Token.{Token}
use Rattle.lsl_tree.specs.Scripts.{Tree}
use Rattle.lsl_grammar.specs.declared.Why.{Why}
use Rattle.lsl_grammar.specs.declared.Why.TheVariants as why
use Rattle.lsl_grammar.specs.Language.{among}
use Rattle.lsl_grammar.specs.Reading.{Read}
use Rattle.lsl_signs.specs.Limits.{most_constructs, height_limit, most_tokens}
use Rattle.lsl_lex.specs.declared.token_types.Sort.TheVariants.{Less}
use Rattle.lsl_parse.specs.declared.fault.ParseKind.{ParseKind}
use Rattle.lsl_parse.specs.declared.fault.ParseKind.TheVariants.{Unexpected, EndOfText, FloatType, TooDeep, TooLarge}
use Rattle.lsl_parse.specs.declared.fault.ParseFault.{ParseFault}
use Rattle.lsl_signs.specs.Kinds.{codes, token_code}
use Rattle.lsl_read.specs.ScriptReading.{all_r}
use Rattle.lsl_parse.specs.Faults.{refused_words, span_at}

-- by why the reader stopped, and the tokens from there on
abbrev pub fault_kind : Why → List Token → ParseKind
fault_kind w [] = EndOfText
fault_kind why.TooDeep (t ∷ ts) = TooDeep
fault_kind why.Unexpected (t ∷ ts) = cond (among (token_code t) (codes refused_words)) FloatType Unexpected
fault_kind why.OperandDue (t ∷ ts) = cond (among (token_code t) (codes (Less ∷ refused_words))) FloatType Unexpected

abbrev pub large_fault : List Token → Span → ParseFault
large_fault tokens end = record { kind = TooLarge; span = span_at tokens end most_tokens }

-- the fault of a stop, or that of the first token too many, which comes before it
abbrev pub stop_fault : List Token → Span → Why → List Token → ParseFault
stop_fault tokens end w rest = cond (nat_lt (most_tokens + length rest) (length tokens))
    (large_fault tokens end) (record { kind = fault_kind w rest; span = span_at rest end 0 })

abbrev pub answer_to : List Token → Span → Read Token Tree → Result Tree ParseFault
answer_to tokens end (Ok x) = cond (nat_lt most_tokens (length tokens)) (Err (large_fault tokens end)) (Ok x.0)
answer_to tokens end (Err e) = Err (stop_fault tokens end e.0 e.1)

-- what the parser answers where memory doesn't run out
abbrev pub answer_of : List Token → Span → Result Tree ParseFault
answer_of tokens end = answer_to tokens end (all_r (Some height_limit) most_constructs tokens)
