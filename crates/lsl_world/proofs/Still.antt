-- A turn of no segment.
use Rattle.std.proofs.Common.{◌≡◌, ◌∙◌, refl, sym, subst, ap, ℕ, ◌+◌, Bool, false, List, ◌++◌}
use Rattle.std.specs.Prelude.{not}
use Rattle.std.proofs.lemmas.List.{append-nil}
use Rattle.lsl_post.specs.declared.entries.Entry.{Entry}
use Rattle.lsl_post.specs.Told.{Told, as_value, quiet, until}
use Rattle.lsl_tree.specs.Program.{Program}
use Rattle.lsl_region.specs.Segments.{is_ready_at, segment, turn}
use Rattle.lsl_region.specs.Worlds.{World as SourceWorld}
use Rattle.lsl_script.specs.Rules.{Rules}
use Rattle.lsl_world.specs.declared.world.World.{World}
use Rattle.lsl_world.specs.Stands.{IsOf}
use Rattle.lsl_world.proofs.Spans.{until-stopped}

-- not more than no segment
pub turn-none : (r : Rules) (most place : ℕ) (w : SourceWorld) → most ≡ 0 → turn r most place w ≡ quiet (w, 0)
unfolding until
turn-none r most place w none = ap (λ (n : ℕ). turn r n place w) none

-- the script isn't ready
pub turn-waits : (r : Rules) (most place : ℕ) (w : SourceWorld) (ready : Bool) → ready ≡ is_ready_at w place
    → ready ≡ false → turn r most place w ≡ quiet (w, 0)
turn-waits r most place w ready told waits =
    until-stopped (λ (x : SourceWorld × ℕ). not (is_ready_at x.0 place))
    (λ x. as_value (λ v. (v, x.1 + 1)) (segment r place x.0)) most (w, 0) (ap not (sym told ∙ waits))

-- so nothing is reported, and the world is unchanged
pub still : (programs : List Program) (world : World) (w : SourceWorld) (entries : List Entry)
    (a : Told (SourceWorld × ℕ)) → IsOf programs world w → a ≡ quiet (w, 0)
    → (IsOf programs world a.value.0 × (0 ≡ a.value.1)) × (entries ≡ entries ++ a.entries)
still programs world w entries a is quiets =
    subst (λ (b : Told (SourceWorld × ℕ)).
    (IsOf programs world b.value.0 × (0 ≡ b.value.1)) × (entries ≡ entries ++ b.entries)) (sym quiets)
    ((is, refl), sym (append-nil entries))
