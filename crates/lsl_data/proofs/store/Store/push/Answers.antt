use Rattle.std.proofs.Common.{◌∙◌, ◌+◌, ◌++◌, ◌∷◌, [], ℕ, List, ap, sym, subst}
use Rattle.lsl_post.specs.declared.parts.Pair.{Pair}
use Rattle.lsl_image.specs.Valid.{IsStore}
use Rattle.lsl_data.specs.Kept.{IsKept}
use Rattle.lsl_data.proofs.Keeping.{kept-push}
use Rattle.lsl_data.proofs.store.Store.push.Goals as goal

pub invariant_of-self-2 : goal.invariant_of-self-2
invariant_of-self-2 c =
    let store = subst (λ (ps : List Pair). IsStore (ps ++ c.args.pair ∷ [])) (sym c.self.view_is) c.requires in
    subst (λ (n : ℕ). IsKept c.put.new.map.entries (c.self.inside.used + n)) (sym c.length_of.ensures.value)
    (kept-push c.self.inside.pairs.entries c.put.new.map.entries c.self.inside.used c.self.invariant c.put.ensures.named
    c.args.pair store c.in_ok-put.ensures.ok).1

pub returns : goal.returns
returns c =
    let store = subst (λ (ps : List Pair). IsStore (ps ++ c.args.pair ∷ [])) (sym c.self.view_is) c.requires in
    (kept-push c.self.inside.pairs.entries c.put.new.map.entries c.self.inside.used c.self.invariant c.put.ensures.named
    c.args.pair store c.in_ok-put.ensures.ok).0
    ∙ ap (λ ps. ps ++ c.args.pair ∷ []) c.self.view_is
