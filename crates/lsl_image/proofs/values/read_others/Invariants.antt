use Rattle.std.proofs.Common.{◌≡◌, ℕ, drop, length}
use Rattle.lsl_running.specs.Charging.{charged_with, charges_of}
use Rattle.lsl_image.specs.Layout.{values_of}
use Rattle.lsl_image.specs.Leading.{LeadsBehind}
use Rattle.lsl_image.proofs.values.read_others.Given as goal

-- the values of the kinds so far are read and charged
abbrev pub invariant-loop-at : goal.invariant-loop-at
invariant-loop-at l = record {
  leads : (start : ℕ)
      → LeadsBehind l.bytes (drop (length l.fn.values.items) l.kinds) l.place l.fn.values.items (values_of l.kinds)
      start
      → LeadsBehind l.bytes (drop l.at l.kinds) l.next l.values.items (values_of l.kinds) start;
  charged : (before : ℕ) → l.fn.charged ≡ charged_with before (charges_of l.fn.values.items)
      → l.charged ≡ charged_with before (charges_of l.values.items);
}
