use Rattle.std.proofs.Common.{◌∙◌, ap, sym, ◌+◌, ◌-◌, arith}
use Rattle.std.specs.Map.{values_of}
use Rattle.std.specs.Option.{option_copied}
use Rattle.lsl_data.proofs.Answering.{holds-found, holds-none, old-within, used-with, worth-found, worth-none}
use Rattle.lsl_data.proofs.pairs.used_with.Goals as goal

pub overflow_sub-result : goal.overflow_sub-result
overflow_sub-result c =
    let pairs = values_of c.args.map.now.entries in
    let found = sym c.pair_at.ensures ∙ ap option_copied c.in-Some.is in
    old-within pairs c.args.pair.now.name c.args.used c.length_of.result c.requires.store.ascend c.requires.counted
    (worth-found pairs c.args.pair.now.name c.in-Some.old.now found ∙ sym c.length_of.ensures.value)

pub returns-in-Some-2 : goal.returns-in-Some-2
returns-in-Some-2 c =
    let pairs = values_of c.args.map.now.entries in
    let p = c.args.pair.now in
    let found = sym c.pair_at.ensures ∙ ap option_copied c.in-Some.is in (
      holds-found pairs p.name p.value c.in-Some.old.now (sym c.pair_at.ensures ∙ ap option_copied c.in-Some.is)
          ∙ sym c.eq.ensures ∙ c.if-eq.false,
      ap (λ n. c.args.used - c.length_of.result + n) c.length_of-in-Some-2.ensures.value
          ∙ used-with pairs p c.args.used c.length_of.result c.requires.store.ascend c.requires.counted
          (worth-found pairs p.name c.in-Some.old.now found ∙ sym c.length_of.ensures.value),
    )

pub returns-in-None : goal.returns-in-None
returns-in-None c =
    let pairs = values_of c.args.map.now.entries in
    let p = c.args.pair.now in
    let none = sym c.pair_at.ensures ∙ ap option_copied c.in-None.is in
    let all = used-with pairs p c.args.used 0 c.requires.store.ascend c.requires.counted
    (worth-none pairs p.name none) in
    (holds-none pairs p.name p.value none, omega (arith, all, c.length_of-in-None.ensures.value))
