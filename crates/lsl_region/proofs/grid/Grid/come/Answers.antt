use Rattle.std.proofs.Common.{◌-◌, ◌∙◌, ap, ℕ}
use Rattle.std.specs.Prelude.{take}
use Rattle.lsl_region.proofs.Comers.{comes-not, comes-own}
use Rattle.lsl_region.proofs.grid.Grid.come.Goals as goal

pub returns-in-Ok-clause-means : goal.returns-in-Ok-clause-means
returns-in-Ok-clause-means c = λ m clock w st own.
    comes-own c.args.library.now m clock (c.args.object - 1) c.args.region.now c.args.self.now c.come_behind.new.self w
    c.args.out.now c.come_behind.new.out c.args.parts st own c.in-Ok.ensures.comes

pub returns-in-Err-clause-means : goal.returns-in-Err-clause-means
returns-in-Err-clause-means c = λ m clock w st own.
    comes-not c.args.library.now m clock (c.args.object - 1) c.args.region.now c.args.self.now c.come_behind.new.self w
    c.args.out.now c.truncate.new.self
    (c.truncate.ensures ∙ ap (λ (n : ℕ). take n c.come_behind.new.out) c.len-before.ensures
    ∙ c.in-Err.ensures.comes.silent)
