use Rattle.std.proofs.Common.{arith, rules}
use Rattle.std.proofs.lemmas.Int.{wraps}
use Rattle.lsl_value.specs.declared.tagged.Value.TheVariants.{List as ListValue}
use Rattle.lsl_ops.proofs.ChargeLemmas.{length-atoms_of}
use Rattle.lsl_ops.proofs.sums.sum.Goals as goal

pub with_last-requires : goal.with_last-requires
with_last-requires c =
    let left = length-atoms_of (ListValue c.in-List-default.a) (rw c.in-List-default.is-0 at c.requires.left) in
    let right = length-atoms_of c.args.right c.requires.right in
    omega arith

pub with_first-requires : goal.with_first-requires
with_first-requires c =
    let right = length-atoms_of (ListValue c.in-Int-List.b) (rw c.in-Int-List.is-1 at c.requires.right) in omega arith

pub with_first-requires-in-Str-List : goal.with_first-requires-in-Str-List
with_first-requires-in-Str-List c =
    let right = length-atoms_of (ListValue c.in-Str-List.b) (rw c.in-Str-List.is-1 at c.requires.right) in omega arith

pub with_first-requires-in-Key-List : goal.with_first-requires-in-Key-List
with_first-requires-in-Key-List c =
    let right = length-atoms_of (ListValue c.in-Key-List.b) (rw c.in-Key-List.is-1 at c.requires.right) in omega arith

pub returns-in-Int-Int-clause-ok : goal.returns-in-Int-Int-clause-ok
returns-in-Int-Int-clause-ok c = search (rules, wraps)
