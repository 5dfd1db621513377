use Rattle.std.proofs.Common.{sym, ap, ◌∙◌, length}
use Rattle.lsl_bodies.specs.Places.{texts_of}
use Rattle.lsl_bodies.proofs.NameTable.{length-names_of}
use Rattle.lsl_bodies.proofs.names.Names.len.Goals as goal

pub returns : goal.returns
returns c = c.len.ensures ∙ (c.self.inside.entries.ok.0
    ∙ (sym (length-names_of (texts_of c.self.inside.table) c.self.inside.entries.items) ∙ ap length c.self.view_is))
