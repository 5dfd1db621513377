-- Runs of two lists of steps by their trips, and prefixes of runs.
use Rattle.std.proofs.Common.{◌≡◌, ℕ, ◌-◌, Bool, true, false, List, [], ◌∷◌, ◌++◌, length, take, drop, refl, ap, sym, ◌∙◌, subst, append_assoc, length-append, length-drop, arith}
use Rattle.std.specs.Prelude.{if◌then◌else◌, not}
use Rattle.std.proofs.lemmas.List.{take-append-drop}
use Rattle.lsl_code.specs.declared.woven_units.Woven.{Woven as Code}
use Rattle.lsl_ports.specs.Growth.{Begins}
use Rattle.lsl_ports.specs.Trips.{Trip}
use Rattle.lsl_ports.proofs.Growth.{begins-after, begins-none}
use Rattle.lsl_post.specs.Told.{Told, lead, next_to}
use Rattle.lsl_post.proofs.Amid.{lead-lead}
use Rattle.lsl_lines.specs.declared.file.Step.{Step}
use Rattle.lsl_lines.specs.declared.file.Step.TheVariants.{Cross}
use Rattle.lsl_script.specs.Rules.{Rules}
use Rattle.lsl_region.specs.Crossings.{image_in}
use Rattle.lsl_region.specs.Journeys.{contents_of, is_in_region}
use Rattle.lsl_region.specs.Worlds.{World}
use Rattle.lsl_world.specs.Laws.{Fits, TwoListsAreTwoCounts, TwoListsAreTwoTravels}
use Rattle.lsl_world.specs.Saves.{counted_step, counted_steps}
use Rattle.lsl_world.specs.Travels.{go_on, images, images_of, is_crossing, left, travel}
use Rattle.lsl_world.proofs.Regions.{go_on-here}

-- one image, or none
if-one : (there : Bool) (image : List ℕ) → not there ≡ true → length (if there then [] else image ∷ []) ≡ 1
if-one true image e = absurd cc
if-one false image e = refl

if-none : (there : Bool) (image : List ℕ) → not there ≡ false → (if there then [] else image ∷ []) ≡ []
if-none true image e = refl
if-none false image e = absurd cc

pub images-one : (codes : List Code) (step : Step) (w : World) → is_crossing w step ≡ true
    → length (images_of codes step w) ≡ 1
images-one codes (Cross object region) w e =
    if-one (is_in_region w (object - 1) region) (image_in codes (contents_of codes w) (object - 1)) e
images-one codes step w e = absurd cc

pub images-none : (codes : List Code) (step : Step) (w : World) → is_crossing w step ≡ false
    → images_of codes step w ≡ []
images-none codes (Cross object region) w e =
    if-none (is_in_region w (object - 1) region) (image_in codes (contents_of codes w) (object - 1)) e
images-none codes step w e = refl

-- the result of a step where others follow its trips
record Splits (r : Rules) (step : Step) (before behind : List Trip) (w : World) : Type 0 where
  same : go_on r step (before ++ behind) w ≡ go_on r step before w
  rest : left step w (before ++ behind) ≡ left step w before ++ behind

go_on-first : (r : Rules) (step : Step) (trip : Trip) (first second : List Trip) (w : World)
    → go_on r step (trip ∷ first) w ≡ go_on r step (trip ∷ second) w
go_on-first r (Cross object region) trip first second w = refl
go_on-first r step trip first second w = refl

left-first : (crossing : Bool) (trip : Trip) (before behind : List Trip)
    → (if crossing then drop 1 (trip ∷ (before ++ behind)) else trip ∷ (before ++ behind))
    ≡ (if crossing then drop 1 (trip ∷ before) else trip ∷ before) ++ behind
left-first true trip before behind = refl
left-first false trip before behind = refl

pub left-here : (step : Step) (trips : List Trip) (w : World) → is_crossing w step ≡ false → left step w trips ≡ trips
left-here step trips w e = ap (λ (b : Bool). if b then drop 1 trips else trips) e

left-cross : (step : Step) (trips : List Trip) (w : World) → is_crossing w step ≡ true
    → left step w trips ≡ drop 1 trips
left-cross step trips w e = ap (λ (b : Bool). if b then drop 1 trips else trips) e

-- without trips it isn't a crossing, where the trips fit
here-none : (codes : List Code) (step : Step) (w : World) (others : List (List ℕ))
    → 0 ≡ length (images_of codes step w ++ others) → is_crossing w step ≡ false
here-none codes step w others e = go (is_crossing w step) refl where
  go : (b : Bool) → is_crossing w step ≡ b → b ≡ false
  go false k = refl
  go true k =
      absurd (omega (arith, e, images-one codes step w k, length-append (images_of codes step w) others))

splits : (codes : List Code) (r : Rules) (step : Step) (before behind : List Trip) (w : World)
    (others : List (List ℕ)) → length before ≡ length (images_of codes step w ++ others)
    → Splits r step before behind w
splits codes r step [] behind w others fits =
    let e = here-none codes step w others fits in
    record {
      same = go_on-here r step behind w e ∙ sym (go_on-here r step [] w e);
      rest = left-here step behind w e ∙ ap (λ (z : List Trip). z ++ behind) (sym (left-here step [] w e));
    }
splits codes r step (trip ∷ before) behind w others fits = record {
  same = go_on-first r step trip (before ++ behind) before w;
  rest = left-first (is_crossing w step) trip before behind;
}

-- what is left of the trips fits the steps that are left
fits-rest : (codes : List Code) (step : Step) (before : List Trip) (w : World) (others : List (List ℕ))
    → length before ≡ length (images_of codes step w ++ others) → length (left step w before) ≡ length others
fits-rest codes step before w others fits = go (is_crossing w step) refl where
  go : (b : Bool) → is_crossing w step ≡ b → length (left step w before) ≡ length others
  go false k =
      ap length (left-here step before w k) ∙ fits
      ∙ ap (λ (z : List (List ℕ)). length (z ++ others)) (images-none codes step w k)
  go true k =
      let one = images-one codes step w k in
      let rest = ap length (left-cross step before w k) in
      omega (arith, fits, one, rest, length-drop 1 before, length-append (images_of codes step w) others)

pub travel-then : TwoListsAreTwoTravels
unfolding travel images
travel-then codes r [] second [] behind w fits = refl
travel-then codes r [] second (trip ∷ before) behind w fits =
    let e : length (trip ∷ before) ≡ 0 = fits in absurd (omega (arith, e))
travel-then codes r (step ∷ first) second before behind w fits =
    let others = images codes r first (left step w before) (go_on r step before w).value in
    let s = splits codes r step before behind w others fits in
    let a = go_on r step before w in
    let b = travel r first (left step w before) a.value in
    ap (λ (z : Told World). next_to z (λ v. travel r (first ++ second) (left step w (before ++ behind)) v)) s.same
    ∙ ap (λ (z : List Trip). lead a.entries (travel r (first ++ second) z a.value)) s.rest
    ∙ ap (λ (z : Told World). lead a.entries z)
    (travel-then codes r first second (left step w before) behind a.value
    (fits-rest codes step before w others fits))
    ∙ lead-lead a.entries b.entries (travel r second behind b.value)

-- and what the two send
pub images-then : (codes : List Code) (r : Rules) (first second : List Step) (before behind : List Trip) (w : World)
    → Fits codes r first before w
    → images codes r (first ++ second) (before ++ behind) w
    ≡ images codes r first before w ++ images codes r second behind (travel r first before w).value
unfolding travel images
images-then codes r [] second [] behind w fits = refl
images-then codes r [] second (trip ∷ before) behind w fits =
    let e : length (trip ∷ before) ≡ 0 = fits in absurd (omega (arith, e))
images-then codes r (step ∷ first) second before behind w fits =
    let a = go_on r step before w in
    let others = images codes r first (left step w before) a.value in
    let s = splits codes r step before behind w others fits in
    let one = images_of codes step w in
    ap (λ (z : Told World). one ++ images codes r (first ++ second) (left step w (before ++ behind)) z.value) s.same
    ∙ ap (λ (z : List Trip). one ++ images codes r (first ++ second) z a.value) s.rest
    ∙ ap (λ (z : List (List ℕ)). one ++ z)
    (images-then codes r first second (left step w before) behind a.value
    (fits-rest codes step before w others fits))
    ∙ sym (append_assoc one others
    (images codes r second behind (travel r first (left step w before) a.value).value))

-- and what is counted
pub counts-then : TwoListsAreTwoCounts
unfolding travel images counted_steps
counts-then codes r [] second [] behind w t fits = refl
counts-then codes r [] second (trip ∷ before) behind w t fits =
    let e : length (trip ∷ before) ≡ 0 = fits in absurd (omega (arith, e))
counts-then codes r (step ∷ first) second before behind w t fits =
    let a = go_on r step before w in
    let others = images codes r first (left step w before) a.value in
    let s = splits codes r step before behind w others fits in
    let u = counted_step r step w t in
    ap (λ (z : Told World). counted_steps r (first ++ second) (left step w (before ++ behind)) z.value u) s.same
    ∙ ap (λ (z : List Trip). counted_steps r (first ++ second) z a.value u) s.rest
    ∙ counts-then codes r first second (left step w before) behind a.value u
    (fits-rest codes step before w others fits)

-- first steps report first entries, and send first images, whatever the trips
pub entries-begin : (r : Rules) (first second : List Step) (trips : List Trip) (w : World)
    → Begins (travel r first trips w).entries (travel r (first ++ second) trips w).entries
unfolding travel
entries-begin r [] second trips w = begins-none (travel r second trips w).entries
entries-begin r (step ∷ first) second trips w =
    let a = go_on r step trips w in
    begins-after a.entries (travel r first (left step w trips) a.value).entries
    (travel r (first ++ second) (left step w trips) a.value).entries
    (entries-begin r first second (left step w trips) a.value)

pub images-begin : (codes : List Code) (r : Rules) (first second : List Step) (trips : List Trip) (w : World)
    → Begins (images codes r first trips w) (images codes r (first ++ second) trips w)
unfolding images
images-begin codes r [] second trips w = begins-none (images codes r second trips w)
images-begin codes r (step ∷ first) second trips w =
    let a = go_on r step trips w in
    begins-after (images_of codes step w) (images codes r first (left step w trips) a.value)
    (images codes r (first ++ second) (left step w trips) a.value)
    (images-begin codes r first second (left step w trips) a.value)

pub entries-begin-take : (r : Rules) (n : ℕ) (steps : List Step) (trips : List Trip) (w : World)
    → Begins (travel r (take n steps) trips w).entries (travel r steps trips w).entries
entries-begin-take r n steps trips w =
    subst (λ (all : List Step). Begins (travel r (take n steps) trips w).entries (travel r all trips w).entries)
    (take-append-drop n steps) (entries-begin r (take n steps) (drop n steps) trips w)

pub images-begin-take : (codes : List Code) (r : Rules) (n : ℕ) (steps : List Step) (trips : List Trip) (w : World)
    → Begins (images codes r (take n steps) trips w) (images codes r steps trips w)
images-begin-take codes r n steps trips w =
    subst (λ (all : List Step). Begins (images codes r (take n steps) trips w) (images codes r all trips w))
    (take-append-drop n steps) (images-begin codes r (take n steps) (drop n steps) trips w)
