use Rattle.std.proofs.Common.{◌==◌, ◌∙◌, ap, sym, not, length}
use Rattle.lsl_value.proofs.TextLemmas.{nonempty-encodes}
use Rattle.lsl_post.proofs.Places.{not-not}
use Rattle.lsl_image.proofs.store.is_empty.Goals as goal

pub returns : goal.returns
returns c =
    c.is_empty.ensures ∙ ap (λ bytes. length bytes == 0) c.bytes.ensures.value ∙ sym (not-not _)
    ∙ ap not (nonempty-encodes c.args.text.now)
