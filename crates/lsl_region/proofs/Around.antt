-- What is posted to the scripts before the one that is out, and to those after it.
use Rattle.std.proofs.Common.{◌≡◌, ◌≢◌, ℕ, zero, suc, ◌+◌, ◌-◌, ◌<◌, ◌≤◌, Bool, List, ◌++◌, length, refl, ◌∙◌, arith}
use Rattle.std.specs.Prelude.{if◌then◌else◌, Some, slice_get}
use Rattle.std.specs.declared.result.Result.{Result}
use Rattle.std.specs.declared.result.Result.TheVariants.{Ok, Err}
use Rattle.lsl_value.specs.declared.names.BuiltinId.{BuiltinId}
use Rattle.lsl_code.specs.declared.woven_units.Woven.{Woven as Code}
use Rattle.lsl_post.specs.declared.entries.Entry.{Entry}
use Rattle.lsl_post.specs.declared.events.Event.{Event}
use Rattle.lsl_post.specs.Journal.{Tells}
use Rattle.lsl_post.specs.Told.{each, quiet}
use Rattle.lsl_post.proofs.Amid.{Walk, walk-start}
use Rattle.lsl_script.specs.declared.live.Live.{Live}
use Rattle.lsl_script.specs.Rules.{Rules}
use Rattle.lsl_script.specs.Scripts.{Flight, post_to}
use Rattle.lsl_region.specs.Grids.{AreHome, Contents, Lent, Stands}
use Rattle.lsl_region.specs.Posting.{post_all, post_between, post_where}
use Rattle.lsl_region.specs.Worlds.{Member, World}
use Rattle.lsl_region.proofs.Away.{elsewhere, other-home}
use Rattle.lsl_region.proofs.Placed.{stands-length}

-- the places before it, and those after it
pub before : (place k : ℕ) → 0 ≤ k → k < place → place ≢ k
before place k h l e = omega (arith, l, e)

pub behind : (place end k : ℕ) → place + 1 ≤ k → k < end → place ≢ k
behind place end k h l e = omega (arith, h, e)

pub home : (place first end : ℕ) → ((k : ℕ) → first ≤ k → k < end → place ≢ k) → AreHome (Some place) first end
home place first end others = λ k h l. other-home place k (others k h l)

each-elsewhere : (r : Rules) (test : World → Member → Bool) (e : Event) (place count first : ℕ) (w : World)
    → ((k : ℕ) → first ≤ k → k < first + count → place ≢ k)
    → slice_get (each (post_where r test e) count first w).value.members place ≡ slice_get w.members place
unfolding each
each-elsewhere r test e place zero first w others = refl
each-elsewhere r test e place (suc count) first w others =
    each-elsewhere r test e place count (first + 1) (post_where r test e first w).value
    (λ k h l. others k (omega (arith, h)) (omega (arith, l)))
    ∙ elsewhere place first (λ (m : Member). if test w m then post_to r (first + 1) e m.script else quiet m.script) w
    (others first (omega arith) (omega arith))

module _ (codes : List Code) (unit : Code) (clock place : ℕ) where
  -- what is posted to all begins
  pub lent-start : (grid : Contents) (live : Live) (id : BuiltinId) (f : Flight) (w : World) (r : Rules)
      (test : World → Member → Bool) (e : Event) (out : List Entry) (end : ℕ) → end ≡ length grid.seats
      → Lent codes unit clock place grid live id f w
      → Walk (λ v. Lent codes unit clock place grid live id f v) (post_all r test e w) out out
      (post_where r test e) 0 end
  lent-start grid live id f w r test e out end count lent =
      walk-start (λ v. Lent codes unit clock place grid live id f v) w out (post_where r test e) (length w.members) end
      lent (count ∙ stands-length codes (Some place) clock grid w lent.stands)

  module _ (first end : ℕ) (grid new : Contents) (live : Live) (id : BuiltinId) (f : Flight) (w : World) (r : Rules)
      (test : World → Member → Bool) (e : Event) where
    abbrev After : World → Type 0
    After v = Lent codes unit clock place new live id f v

    -- it waits as before
    pub lent-between : (old now : List Entry) → ((k : ℕ) → first ≤ k → k < end → place ≢ k) → first ≤ end
        → Lent codes unit clock place grid live id f w
        → Stands codes (Some place) clock new (post_between r test e first end w).value
        × (now ≡ old ++ (post_between r test e first end w).entries)
        → After (post_between r test e first end w).value × (now ≡ old ++ (post_between r test e first end w).entries)
    lent-between old now others h lent d = (
      record {
        stands = d.0;
        member = lent.member;
        at = each-elsewhere r test e place (end - first) first w (λ k a b. others k a (omega (arith, b, h))) ∙ lent.at;
        waits = lent.waits;
      },
      d.1,
    )

    pub lent-behind : {T E : Type 0} (result : Result T E) (old now : List Entry)
        → ((k : ℕ) → first ≤ k → k < end → place ≢ k) → first ≤ end
        → Lent codes unit clock place grid live id f w
        → Tells result (λ v _. Stands codes (Some place) clock new v) old now (post_between r test e first end w)
        → Tells result (λ v _. After v) old now (post_between r test e first end w)
    lent-behind (Ok x) old now others h lent d = lent-between old now others h lent d
    lent-behind (Err x) old now others h lent d = d
