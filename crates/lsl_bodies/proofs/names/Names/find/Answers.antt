use Rattle.std.proofs.Common.{◌≡◌, ◌≤◌, ap, length, arith, rules}
use Rattle.lsl_bodies.specs.Names.{nearest}
use Rattle.lsl_bodies.specs.Places.{texts_of}
use Rattle.lsl_bodies.proofs.NameTable.{length-names_of}
use Rattle.lsl_bodies.proofs.NameLemmas.{IfSome-nearest}
use Rattle.lsl_bodies.proofs.names.Names.find.Goals as goal

pub returns-clause-within : goal.returns-clause-within
returns-clause-within c =
    let found : c.flatten.result ≡ nearest c.args.name.now c.args.self.now = search rules in
    let few : length c.args.self.now ≤ 18446744073709551615 =
    omega (
      arith,
      ap length c.self.view_is,
      length-names_of (texts_of c.self.inside.table) c.self.inside.entries.items,
      c.self.inside.entries.ok.0,
      c.self.inside.entries.small,
    ) in
    IfSome-nearest c.flatten.result c.args.name.now c.args.self.now 18446744073709551615 found few
