-- The regions of objects are reported, one after another.
use Rattle.std.proofs.Common.{◌≡◌, ℕ, suc, ◌+◌, ◌-◌, ◌<◌, ◌≤◌, List, [], ◌∷◌, ◌++◌, length, get_or, drop, refl, ap, sym, ◌∙◌, subst, append_assoc, append-nil, arith}
use Rattle.std.proofs.Math.Seq.{drop-cons}
use Rattle.std.proofs.Math.ListN.{drop_of_length-le}
use Rattle.lsl_post.specs.declared.entries.Entry.{Entry}
use Rattle.lsl_post.specs.declared.entries.Entry.TheVariants as entry
use Rattle.lsl_post.specs.Journal.{Part}
use Rattle.lsl_region.specs.declared.objects.Linkset.{Linkset}
use Rattle.lsl_region.specs.Worlds.{no_object}
use Rattle.lsl_world.specs.Reports.{homes_from}

pub record Telling (objects : List Linkset) (old now : List Entry) (place : ℕ) : Type 0 where
  pub done : List Entry
  pub so_far : now ≡ old ++ done
  pub whole : done ++ homes_from (suc place) (drop place objects) ≡ homes_from 1 objects

pub telling-start : (objects : List Linkset) (old : List Entry) → Telling objects old old 0
telling-start objects old = record { done = []; so_far = sym (append-nil old); whole = refl }

pub telling-ok : (objects : List Linkset) (old now new : List Entry) (place : ℕ) → Telling objects old now place
    → place < length objects
    → new ≡ now ++ entry.Home (place + 1) (get_or objects ((place + 1) - 1) no_object).region ∷ []
    → Telling objects old new (place + 1)
telling-ok objects old now new place t h e =
    let s : place + 1 ≡ suc place = omega arith in
    let home : Entry = entry.Home (suc place) (get_or objects place no_object).region in
    let b : (place + 1) - 1 ≡ place = omega arith in
    let k : new ≡ now ++ home ∷ [] =
    e ∙ ap (λ (n : ℕ). now ++ entry.Home (place + 1) (get_or objects n no_object).region ∷ []) b
    ∙ ap (λ (n : ℕ). now ++ entry.Home n (get_or objects place no_object).region ∷ []) s in
    subst (λ (n : ℕ). Telling objects old new n) (sym s)
    (record {
      done = t.done ++ home ∷ [];
      so_far = k ∙ ap (λ (z : List Entry). z ++ home ∷ []) t.so_far ∙ append_assoc old t.done (home ∷ []);
      whole = append_assoc t.done (home ∷ []) (homes_from (suc (suc place)) (drop (suc place) objects))
          ∙ ap (λ (os : List Linkset). t.done ++ homes_from (suc place) os) (sym (drop-cons objects place no_object h))
          ∙ t.whole;
    })

pub telling-err : (objects : List Linkset) (old now new : List Entry) (place : ℕ) → Telling objects old now place
    → new ≡ now → Part old new (homes_from 1 objects)
telling-err objects old now new place t e = record {
  added = t.done;
  missing = homes_from (suc place) (drop place objects);
  now = e ∙ t.so_far;
  all = t.whole;
}

pub telling-end : (objects : List Linkset) (old now : List Entry) (place : ℕ) → Telling objects old now place
    → length objects ≤ place → now ≡ old ++ homes_from 1 objects
telling-end objects old now place t h =
    t.so_far ∙ ap (λ (z : List Entry). old ++ z)
    (sym (append-nil t.done)
    ∙ ap (λ (os : List Linkset). t.done ++ homes_from (suc place) os) (sym (drop_of_length-le objects h)) ∙ t.whole)
