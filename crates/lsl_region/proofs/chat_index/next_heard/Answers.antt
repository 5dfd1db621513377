use Rattle.std.proofs.Common.{◌≡◌, ◌⊎◌, ◌<◌, ℕ, ℤ, subst, sym, true, w32}
use Rattle.std.specs.Prelude.{slice_get}
use Rattle.std.proofs.lemmas.Int.{to_z-of_z}
use Rattle.lsl_region.specs.Table.{BelongsAt, heard, is_heard, no_place, place_of}
use Rattle.lsl_region.proofs.Table.{next-heard, next-passed}
use Rattle.lsl_region.proofs.chat_index.next_heard.Goals as goal

pub returns-in-Err-clause-passed : goal.returns-in-Err-clause-passed
returns-in-Err-clause-passed c = λ place first last.
    let table = c.args.table.now in
    let same = to_z-of_z w32 c.args.channel c.ranges.channel in
    let belongs = subst (λ (z : ℤ). BelongsAt table (heard z c.args.from) c.in-Err.at) same c.in-Err.ensures in
    let is = subst (λ (z : ℤ). c.place_at.result ≡ place_of z (slice_get table c.in-Err.at)) same c.place_at.ensures in
    next-passed table c.requires c.args.channel c.args.from c.in-Err.at belongs place first
    (subst (λ (n : ℕ). place < n) is last)

pub returns-in-Err-clause-found : goal.returns-in-Err-clause-found
returns-in-Err-clause-found c =
    let table = c.args.table.now in
    let same = to_z-of_z w32 c.args.channel c.ranges.channel in
    let belongs = subst (λ (z : ℤ). BelongsAt table (heard z c.args.from) c.in-Err.at) same c.in-Err.ensures in
    let is = subst (λ (z : ℤ). c.place_at.result ≡ place_of z (slice_get table c.in-Err.at)) same c.place_at.ensures in
    subst (λ (n : ℕ). (n ≡ no_place) ⊎ (is_heard table c.args.channel n ≡ true)) (sym is)
    (next-heard table c.requires c.args.channel c.args.from c.in-Err.at belongs)
