use Rattle.std.proofs.Common.{◌≡◌, ◌≤◌, ◌∙◌, sym, ap, subst, arith, length, List, ℕ}
use Rattle.std.specs.Prelude.{IfOk}
use Rattle.std.specs.Str.{chars, encode_utf8_all}
use Rattle.std.proofs.lemmas.Str.{encodes-chars}
use Rattle.lsl_notes.proofs.Cuts.{cut_whole}
use Rattle.lsl_notes.proofs.cutting.whole.Goals as goal

pub returns : goal.returns
returns c =
    let text = c.args.text.now in
    let short : length (encode_utf8_all (chars text)) ≤ c.args.room =
    omega (arith, ap length (encodes-chars text c.utf8.text), c.requires.fits) in
    let same = ap chars c.in_ok-from_str.ensures.ok ∙ sym (cut_whole c.args.room (chars text) short) in
    subst (λ (t : List ℕ). IfOk c.from_string.result (λ made. made ≡ t)) same c.from_string.ensures
