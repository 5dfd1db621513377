use Rattle.std.proofs.Common.{◌≡◌, ◌<◌, ◌≤◌, Some, [], length, Ok, Err, sym, ap, ◌∙◌, subst, rules}
use Rattle.lsl_signs.specs.Limits.{most_constructs, height_limit, most_tokens}
use Rattle.lsl_tree.specs.Scripts.{tree_of}
use Rattle.lsl_read.specs.ScriptReading.{all_r}
use Rattle.lsl_parse.specs.Faults.{IsFirst}
use Rattle.lsl_parse.specs.FaultReading.{large_fault, stop_fault}
use Rattle.lsl_parse.proofs.FirstFault.{every_same, every_none, no_first}
use Rattle.lsl_parse.proofs.Answering.{stop_first, large_first, first_only, found_tree}
use Rattle.lsl_parse.proofs.answer.parse.Goals as goal

pub returns-then-list-gt-TOKENS-clause-first : goal.returns-then-list-gt-TOKENS-clause-first
returns-then-list-gt-TOKENS-clause-first c =
    let ts = c.args.tokens.now.list in
    let end = c.args.tokens.now.end in
    let read : all_r (Some height_limit) most_constructs ts ≡ Ok (tree_of c.in-Ok.tree, []) =
    ap (all_r (Some height_limit) most_constructs) (sym c.as_slice-list.ensures) ∙ c.in-Ok.ensures in
    let many : most_tokens < length ts = subst (λ l. most_tokens < length l) c.as_slice-list.ensures
    c.if-list-gt-TOKENS.true in
    let is : c.large_fault_of.result ≡ large_fault ts end =
    c.large_fault_of.ensures ∙ ap (λ l. large_fault l end) c.as_slice-list.ensures in
    subst (IsFirst ts end) (sym is) (large_first ts (tree_of c.in-Ok.tree) end read many)

pub returns-then-list-gt-TOKENS-clause-only : goal.returns-then-list-gt-TOKENS-clause-only
returns-then-list-gt-TOKENS-clause-only c =
    let ts = c.args.tokens.now.list in
    let end = c.args.tokens.now.end in
    let read : all_r (Some height_limit) most_constructs ts ≡ Ok (tree_of c.in-Ok.tree, []) =
    ap (all_r (Some height_limit) most_constructs) (sym c.as_slice-list.ensures) ∙ c.in-Ok.ensures in
    let many : most_tokens < length ts = subst (λ l. most_tokens < length l) c.as_slice-list.ensures
    c.if-list-gt-TOKENS.true in
    let is : c.large_fault_of.result ≡ large_fault ts end =
    c.large_fault_of.ensures ∙ ap (λ l. large_fault l end) c.as_slice-list.ensures in
    let first : IsFirst ts end c.large_fault_of.result =
    subst (IsFirst ts end) (sym is) (large_first ts (tree_of c.in-Ok.tree) end read many) in
    λ place kind f. first_only ts end c.large_fault_of.result place kind first f

pub returns-else-list-gt-TOKENS-clause-found : goal.returns-else-list-gt-TOKENS-clause-found
returns-else-list-gt-TOKENS-clause-found c =
    let ts = c.args.tokens.now.list in
    let read : all_r (Some height_limit) most_constructs ts ≡ Ok (tree_of c.in-Ok.tree, []) =
    ap (all_r (Some height_limit) most_constructs) (sym c.as_slice-list.ensures) ∙ c.in-Ok.ensures in
    let few : length ts ≤ most_tokens = subst (λ l. length l ≤ most_tokens) c.as_slice-list.ensures
    c.if-list-gt-TOKENS.false in
    found_tree ts (tree_of c.in-Ok.tree) read few

pub returns-else-list-gt-TOKENS-clause-every : goal.returns-else-list-gt-TOKENS-clause-every
returns-else-list-gt-TOKENS-clause-every c =
    let ts = c.args.tokens.now.list in
    let read : all_r (Some height_limit) most_constructs ts ≡ Ok (tree_of c.in-Ok.tree, []) =
    ap (all_r (Some height_limit) most_constructs) (sym c.as_slice-list.ensures) ∙ c.in-Ok.ensures in
    λ script d. every_same ts (tree_of c.in-Ok.tree) script read d

pub returns-else-list-gt-TOKENS-clause-only : goal.returns-else-list-gt-TOKENS-clause-only
returns-else-list-gt-TOKENS-clause-only c =
    let ts = c.args.tokens.now.list in
    let read : all_r (Some height_limit) most_constructs ts ≡ Ok (tree_of c.in-Ok.tree, []) =
    ap (all_r (Some height_limit) most_constructs) (sym c.as_slice-list.ensures) ∙ c.in-Ok.ensures in
    let few : length ts ≤ most_tokens = subst (λ l. length l ≤ most_tokens) c.as_slice-list.ensures
    c.if-list-gt-TOKENS.false in
    λ place kind f. no_first place ts kind (tree_of c.in-Ok.tree) (found_tree ts (tree_of c.in-Ok.tree) read few) f

pub returns-in-Err-Fault-clause-every : goal.returns-in-Err-Fault-clause-every
returns-in-Err-Fault-clause-every c =
    let ts = c.args.tokens.now.list in
    let stop = c.in-Err-Fault.stop in
    let stopped : all_r (Some height_limit) most_constructs c.as_slice-list.result.now
    ≡ Err (stop.why, stop.rest.now) = search rules in
    let read : all_r (Some height_limit) most_constructs ts ≡ Err (stop.why, stop.rest.now) =
    ap (all_r (Some height_limit) most_constructs) (sym c.as_slice-list.ensures) ∙ stopped in
    λ script d. absurd (every_none ts stop.rest.now script stop.why read d)

pub returns-in-Err-Fault-clause-first : goal.returns-in-Err-Fault-clause-first
returns-in-Err-Fault-clause-first c =
    let ts = c.args.tokens.now.list in
    let end = c.args.tokens.now.end in
    let stop = c.in-Err-Fault.stop in
    let stopped : all_r (Some height_limit) most_constructs c.as_slice-list.result.now
    ≡ Err (stop.why, stop.rest.now) = search rules in
    let read : all_r (Some height_limit) most_constructs ts ≡ Err (stop.why, stop.rest.now) =
    ap (all_r (Some height_limit) most_constructs) (sym c.as_slice-list.ensures) ∙ stopped in
    let is : c.fault_of.result ≡ stop_fault ts end stop.why stop.rest.now =
    c.fault_of.ensures ∙ ap (λ l. stop_fault l end stop.why stop.rest.now) c.as_slice-list.ensures in
    subst (IsFirst ts end) (sym is) (stop_first ts stop.rest.now stop.why end read)

pub returns-in-Err-Fault-clause-only : goal.returns-in-Err-Fault-clause-only
returns-in-Err-Fault-clause-only c =
    let ts = c.args.tokens.now.list in
    let end = c.args.tokens.now.end in
    let stop = c.in-Err-Fault.stop in
    let stopped : all_r (Some height_limit) most_constructs c.as_slice-list.result.now
    ≡ Err (stop.why, stop.rest.now) = search rules in
    let read : all_r (Some height_limit) most_constructs ts ≡ Err (stop.why, stop.rest.now) =
    ap (all_r (Some height_limit) most_constructs) (sym c.as_slice-list.ensures) ∙ stopped in
    let is : c.fault_of.result ≡ stop_fault ts end stop.why stop.rest.now =
    c.fault_of.ensures ∙ ap (λ l. stop_fault l end stop.why stop.rest.now) c.as_slice-list.ensures in
    let first : IsFirst ts end c.fault_of.result =
    subst (IsFirst ts end) (sym is) (stop_first ts stop.rest.now stop.why end read) in
    λ place kind f. first_only ts end c.fault_of.result place kind first f
