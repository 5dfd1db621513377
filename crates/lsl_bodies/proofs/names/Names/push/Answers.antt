use Rattle.std.proofs.Common.{◌≡◌, ℕ, List, [], ◌∷◌, ◌++◌, sym, ap, ◌∙◌, length, subst}
use Rattle.lsl_bodies.specs.declared.names.Entry.{Entry}
use Rattle.lsl_bodies.specs.Places.{texts_of, IsNoted}
use Rattle.lsl_bodies.specs.NameTable.{names_of, IsTable}
use Rattle.lsl_bodies.proofs.NameTable.{names_pushed, pushed}
use Rattle.lsl_bodies.proofs.names.Names.push.Goals as goal

pub invariant_of-self-2 : goal.invariant_of-self-2
invariant_of-self-2 c =
    let m = c.self.inside.table in
    let n = c.note.new.table in
    let es = c.self.inside.entries.items in
    let name = c.args.name.now in
    let count : c.len-number.result ≡ length es =
    c.len-number.ensures ∙ c.reserve.new.self.ok.0 ∙ ap length c.in_ok-reserve.ensures.items in
    let entry : Entry = record { place = c.in_ok-place.place; hidden = c.in_ok-place.hidden } in
    let items : c.push.new.self.items ≡ es ++ entry ∷ [] =
    c.in-Ok.ensures.items ∙ ap (λ (l : List Entry). l ++ entry ∷ []) c.in_ok-reserve.ensures.items in
    subst (λ (l : List Entry). IsTable n l) (sym items)
    (pushed m n es entry name
    (subst (λ (k : ℕ). IsNoted m n name k entry.place entry.hidden) count c.in_ok-place.ensures.noted)
    c.self.invariant)

pub returns-clause-ok : goal.returns-clause-ok
returns-clause-ok c =
    let n = c.note.new.table in
    let es = c.self.inside.entries.items in
    let entry : Entry = record { place = c.in_ok-place.place; hidden = c.in_ok-place.hidden } in
    let items : c.push.new.self.items ≡ es ++ entry ∷ [] =
    c.in-Ok.ensures.items ∙ ap (λ (l : List Entry). l ++ entry ∷ []) c.in_ok-reserve.ensures.items in
    ap (names_of (texts_of n)) items
    ∙ (names_pushed c.self.inside.table n es entry c.args.name.now c.len-number.result
    c.in_ok-place.ensures.noted c.self.invariant
    ∙ ap (λ (l : List (List ℕ)). c.args.name.now ∷ l) c.self.view_is)
