use Rattle.std.proofs.Common.{◌≡◌, take}
use Rattle.std.specs.Prelude.{filter}
use Rattle.lsl_trace.specs.Texts.{asks_for}
use Rattle.lsl_trace.proofs.texts.asked_of.Given as goal

abbrev pub invariant-loop-entry : goal.invariant-loop-entry
invariant-loop-entry l = record {
  each : l.asked.items ≡ filter (asks_for l.request.first l.request.last) (take l.entry-index l.entries);
  all : l.request.first ≡ 0 → l.request.last ≡ 18446744073709551615 → l.asked.items ≡ take l.entry-index l.entries;
}
