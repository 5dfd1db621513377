use Rattle.std.proofs.Common.{◌∙◌, ◌<◌, List, ℕ, ap, length, subst, sym}
use Rattle.std.specs.Prelude.{All}
use Rattle.lsl_lines.specs.declared.file.NoteLine.{NoteLine}
use Rattle.lsl_top.specs.Notes.{notecards_of}
use Rattle.lsl_top.proofs.noting.cards_of.Goals as goal

pub hold-requires-clause-few : goal.hold-requires-clause-few
hold-requires-clause-few c = c.requires.few

pub hold-requires-clause-there : goal.hold-requires-clause-there
hold-requires-clause-there c =
    subst (λ (n : ℕ). All (λ (line : NoteLine). line.file < n) c.args.lines.now)
    (sym (ap length c.as_slice.ensures.value ∙ c.in_ok-read.ensures.len)) c.requires.there

pub returns-clause-ok : goal.returns-clause-ok
returns-clause-ok c = (
  c.in_ok-read.read.items,
  c.in_ok-read.ensures.ok,
  c.in_ok-hold.ensures
      ∙ ap (λ (read : List (List (List ℕ))). notecards_of c.args.lines.now read) c.as_slice.ensures.value,
)
