use Rattle.std.proofs.Common.{ℕ, List, sym, ap, ◌∙◌, drop, arith}
use Rattle.lsl_bodies.specs.Places.{texts_of}
use Rattle.lsl_bodies.specs.NameTable.{names_of}
use Rattle.lsl_bodies.proofs.PlaceLemmas.{length-texts_of}
use Rattle.lsl_bodies.proofs.NameTable.{names_of-append, place_within, popped}
use Rattle.lsl_bodies.proofs.names.Names.pop.Goals as goal

pub set-requires : goal.set-requires
set-requires c =
    let m = c.self.inside.table in
    omega (
      arith,
      place_within
          m
          c.self.inside.entries.items
          c.pop.new.self.items
          c.in-Some.field-0
          c.in-Some.ensures.items
          c.self.invariant,
      length-texts_of m,
    )

pub invariant_of-self : goal.invariant_of-self
invariant_of-self c =
    popped c.self.inside.table c.set.new.table c.self.inside.entries.items c.pop.new.self.items
    c.in-Some.field-0 c.in-Some.ensures.items c.set.ensures.texts c.set.ensures.updates c.self.invariant

pub returns-in-Some : goal.returns-in-Some
returns-in-Some c =
    let texts = texts_of c.self.inside.table in
    ap (λ (ts : List (List ℕ)). names_of ts c.pop.new.self.items) c.set.ensures.texts
    ∙ ap (drop 1) (sym (names_of-append texts c.pop.new.self.items c.in-Some.field-0)
    ∙ (ap (names_of texts) (sym c.in-Some.ensures.items) ∙ c.self.view_is))
