use Rattle.std.proofs.Common.{◌≡◌, ◌∙◌, ◌++◌, ◌∷◌, [], ℕ, List, false, is_some, ap, arith, sym}
use Rattle.std.specs.String.{string_eq}
use Rattle.indexmap.specs.IndexMap.{insert_entry}
use Rattle.lsl_world.specs.Regions.{number_of}
use Rattle.lsl_world.specs.RegionTable.{names_of}
use Rattle.lsl_world.proofs.RegionTable.{table-added, with-added}
use Rattle.lsl_world.proofs.naming.Regions.add.Goals as goal

pub invariant_of-self-2 : goal.invariant_of-self-2
invariant_of-self-2 c =
    let es = c.self.inside.table.entries in
    let region = c.args.region.now in
    let absent : is_some (number_of (names_of es) region) ≡ false =
    ap (λ (names : List (List ℕ)). is_some (number_of names region)) c.self.view_is
    ∙ sym (ap is_some c.number.ensures) ∙ sym c.is_some.ensures ∙ c.if-is_some.false in
    (table-added es c.insert.new.self.entries c.in_ok-key.key region c.self.invariant
    (c.in_ok-key.ensures.ok ∙ c.as_str.ensures.value) absent
    (omega (arith, c.if-len.false, c.len.ensures.len))
    (c.in_ok-insert.ensures.entries
    ∙ ap (λ (name : List ℕ). insert_entry string_eq es c.in_ok-key.key name) c.in_ok-copy.ensures)).0

pub returns : goal.returns
returns c =
    let es = c.self.inside.table.entries in
    let region = c.args.region.now in
    let absent : is_some (number_of (names_of es) region) ≡ false =
    ap (λ (names : List (List ℕ)). is_some (number_of names region)) c.self.view_is
    ∙ sym (ap is_some c.number.ensures) ∙ sym c.is_some.ensures ∙ c.if-is_some.false in
    (table-added es c.insert.new.self.entries c.in_ok-key.key region c.self.invariant
    (c.in_ok-key.ensures.ok ∙ c.as_str.ensures.value) absent
    (omega (arith, c.if-len.false, c.len.ensures.len))
    (c.in_ok-insert.ensures.entries
    ∙ ap (λ (name : List ℕ). insert_entry string_eq es c.in_ok-key.key name) c.in_ok-copy.ensures)).1
    ∙ ap (λ (names : List (List ℕ)). names ++ region ∷ []) c.self.view_is
    ∙ with-added c.args.self.now region (sym (ap (λ (names : List (List ℕ)). is_some (number_of names region))
    c.self.view_is) ∙ absent)
