use Rattle.std.proofs.Common.{◌∙◌, ◌==◌, ap, sym, not, length}
use Rattle.lsl_value.specs.Values.{truth_of}
use Rattle.lsl_value.proofs.TextLemmas.{nonempty-encodes}
use Rattle.lsl_value.proofs.tagged.truth.Goals as goal

pub returns-in-Str : goal.returns-in-Str
returns-in-Str c =
    ap not (c.is_empty.ensures ∙ ap (λ bytes. length bytes == 0) c.bytes.ensures.value)
    ∙ nonempty-encodes c.in-Str.text ∙ sym (ap truth_of c.in-Str.is)
