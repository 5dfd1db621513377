use Rattle.std.proofs.Common.{◌≡◌, ◌∙◌, List, ℕ, ap, sym, subst, take}
use Rattle.std.proofs.Math.Seq.{take-length}
use Rattle.lsl_region.specs.Pausing.{AreGaps, Counts, with_gaps}
use Rattle.lsl_world.proofs.Kept.{paused}
use Rattle.lsl_world.proofs.world.World.set_gaps.Goals as goal

pub set-requires : goal.set-requires
set-requires c =
    let e : c.in_ok-copied.copied ≡ c.args.gaps.now =
    c.in_ok-copied.ensures ∙ ap (λ (n : ℕ). take n c.args.gaps.now) c.len.ensures ∙ take-length c.args.gaps.now in
    subst AreGaps (sym e) c.requires.gaps

pub returns-clause-same : goal.returns-clause-same
returns-clause-same c = λ programs w is. paused programs c.args.self.now w c.set.new.self is

pub returns-clause-saves : goal.returns-clause-saves
returns-clause-saves c = λ t has.
    let e : c.in_ok-copied.copied ≡ c.args.gaps.now =
    c.in_ok-copied.ensures ∙ ap (λ (n : ℕ). take n c.args.gaps.now) c.len.ensures ∙ take-length c.args.gaps.now in
    subst (λ (gaps : List ℕ). Counts c.set.new.self (with_gaps gaps t)) e (c.set.ensures t has)
