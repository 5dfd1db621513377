-- The test of equality of what listens ask decides it.
use Rattle.std.proofs.Common.{◌≡◌, Bool, true, false, ◌&&◌, refl, ap, Decides}
use Rattle.std.specs.Cmp.{IsEquivalence, decided, signed_Decides}
use Rattle.std.proofs.lemmas.Bool.{false≢true}
use Rattle.std.proofs.lemmas.Slice.Eq.{bytes_eq-Decides}
use Rattle.lsl_post.specs.declared.filters.Filter.{Filter}
use Rattle.lsl_post.specs.Filters.{filter, same_filter}

-- both tests hold exactly where both facts do
both-Decides : {P Q : Type 0} (b c : Bool) → Decides b P → Decides c Q → Decides (b && c) (P × Q)
both-Decides true true p q = (λ h. (p.0 refl, q.0 refl), λ h. refl)
both-Decides true false p q = (λ h. (p.0 refl, q.0 h), λ h. q.1 h.1)
both-Decides false c p q = (λ h. absurd (false≢true h), λ h. p.1 h.0)

pub same_filter-Decides : (a b : Filter) → Decides (same_filter a b) (a ≡ b)
same_filter-Decides a b =
    let each = both-Decides _ _ (signed_Decides a.channel b.channel)
    (both-Decides _ _ (bytes_eq-Decides a.name b.name)
    (both-Decides _ _ (bytes_eq-Decides a.id b.id) (bytes_eq-Decides a.message b.message))) in
    let channel : a ≡ b → a.channel ≡ b.channel = ap (λ f. f.channel) in
    let name : a ≡ b → a.name ≡ b.name = ap (λ f. f.name) in
    let id : a ≡ b → a.id ≡ b.id = ap (λ f. f.id) in
    let message : a ≡ b → a.message ≡ b.message = ap (λ f. f.message) in (
      λ h. let e = each.0 h in λ i. filter (e.0 i) (e.1.0 i) (e.1.1.0 i) (e.1.1.1 i),
      λ e. each.1 (channel e, (name e, (id e, message e))),
    )

pub same_filter_equiv : IsEquivalence same_filter
same_filter_equiv = decided same_filter same_filter-Decides
