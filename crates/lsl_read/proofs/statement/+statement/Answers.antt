use Rattle.std.proofs.Common.{◌≡◌, Some, [], ◌∷◌, Ok, true, false, sym, ap, ◌∙◌, arith, rules}
use Rattle.lsl_lex.specs.declared.token_types.Sort.TheVariants.{StateWord, IfWord, ForWord, DoWord, WhileWord, JumpWord, ReturnWord, BraceOpen}
use Rattle.lsl_signs.specs.Limits.{height_limit}
use Rattle.lsl_tree.specs.Statements as tree
use Rattle.lsl_tree.specs.Statements.{item_of, items_of, AndItem}
use Rattle.lsl_grammar.specs.Reading.{begins, rounds_r}
use Rattle.lsl_signs.specs.Kinds.{codes, token_code, not_end}
use Rattle.lsl_read.specs.StatementReading.{next_item_r, item_r, statement_r, braces_r, stmt_room_r}
use Rattle.lsl_tree.proofs.SyntaxRows.{items_of-push, stmt_of-Block}
use Rattle.lsl_read.proofs.Dispatch.{statement_words, statement_braces, statement_if, statement_while, statement_do, statement_for, statement_jump, statement_return, statement_state, statement_simple}
use Rattle.lsl_read.proofs.StatementLoops.{stmt_room_inside, item_less, item_step}
use Rattle.lsl_read.proofs.statement.+statement.Goals as goal

pub items-all-smaller : goal.items-all-smaller
items-all-smaller t c =
    let before = items_of c.all.all.items in
    let now : next_item_r (item_r (Some height_limit) c.args.room) before c.all.rest.now
    ≡ Ok (AndItem before (item_of c.in_ok-next.next), c.in_ok-next.after.now) = search rules in
    item_less (Some height_limit) c.args.room before (AndItem before (item_of c.in_ok-next.next)) c.all.rest.now
    c.in_ok-next.after.now now

pub items-all-preserved : goal.items-all-preserved
items-all-preserved t c =
    let d = c.args.room in
    let before = items_of c.all.all.items in
    let now : next_item_r (item_r (Some height_limit) d) before c.all.rest.now
    ≡ Ok (AndItem before (item_of c.in_ok-next.next), c.in_ok-next.after.now) = search rules in
    ap (λ x. rounds_r token_code not_end (next_item_r (item_r (Some height_limit) d)) x c.in_ok-next.after.now)
    (items_of-push c.push.new.self.items c.all.all.items c.in_ok-next.next (search rules))
    ∙ sym (item_step (Some height_limit) d before (AndItem before (item_of c.in_ok-next.next)) c.all.rest.now
    c.in_ok-next.after.now (search rules) now)
    ∙ c.all.invariant

pub braces-returns : goal.braces-returns
braces-returns t c =
    let mid : braces_r (stmt_room_r (Some height_limit) c.args.room) c.args.tokens.now
    ≡ Ok (tree.Block (items_of c.in_ok-items.items.items), c.in_ok-items.rest.now) = search rules in
    mid ∙ ap (λ x. Ok (x, c.in_ok-items.rest.now)) (sym (stmt_of-Block c.in_ok-items.items))

pub block-returns : goal.block-returns
block-returns t c = let e = stmt_room_inside (Some height_limit) c.args.room (omega arith) in rw e (search rules)

pub block-returns-in_err-all : goal.block-returns-in_err-all
block-returns-in_err-all t c = let e = stmt_room_inside (Some height_limit) c.args.room (omega arith) in
    rw e (search rules)

pub block-returns-in_err-rest-2 : goal.block-returns-in_err-rest-2
block-returns-in_err-rest-2 t c = let e = stmt_room_inside (Some height_limit) c.args.room (omega arith) in
    rw e (search rules)

pub body-returns : goal.body-returns
body-returns t c = let e = stmt_room_inside (Some height_limit) c.args.room (omega arith) in rw e (search rules)

pub statement-returns-in-BraceOpen : goal.statement-returns-in-BraceOpen
statement-returns-in-BraceOpen t c =
    let next : begins token_code (codes (BraceOpen ∷ [])) c.args.tokens.now ≡ true = search rules in
    rw (statement_braces (Some height_limit) c.args.room c.args.tokens.now next) c.braces.ensures

pub statement-returns-in-IfWord : goal.statement-returns-in-IfWord
statement-returns-in-IfWord t c =
    let next : begins token_code (codes (IfWord ∷ [])) c.args.tokens.now ≡ true = search rules in
    rw (statement_if (Some height_limit) c.args.room c.args.tokens.now next) c.if_statement.ensures

pub statement-returns-in-WhileWord : goal.statement-returns-in-WhileWord
statement-returns-in-WhileWord t c =
    let next : begins token_code (codes (WhileWord ∷ [])) c.args.tokens.now ≡ true = search rules in
    rw (statement_while (Some height_limit) c.args.room c.args.tokens.now next) c.while_statement.ensures

pub statement-returns-in-DoWord : goal.statement-returns-in-DoWord
statement-returns-in-DoWord t c =
    let next : begins token_code (codes (DoWord ∷ [])) c.args.tokens.now ≡ true = search rules in
    rw (statement_do (Some height_limit) c.args.room c.args.tokens.now next) c.do_statement.ensures

pub statement-returns-in-ForWord : goal.statement-returns-in-ForWord
statement-returns-in-ForWord t c =
    let next : begins token_code (codes (ForWord ∷ [])) c.args.tokens.now ≡ true = search rules in
    rw (statement_for (Some height_limit) c.args.room c.args.tokens.now next) c.for_statement.ensures

pub statement-returns-in-JumpWord : goal.statement-returns-in-JumpWord
statement-returns-in-JumpWord t c =
    let next : begins token_code (codes (JumpWord ∷ [])) c.args.tokens.now ≡ true = search rules in
    rw (statement_jump (Some height_limit) c.args.room c.args.tokens.now next) c.jump.ensures

pub statement-returns-in-ReturnWord : goal.statement-returns-in-ReturnWord
statement-returns-in-ReturnWord t c =
    let next : begins token_code (codes (ReturnWord ∷ [])) c.args.tokens.now ≡ true = search rules in
    rw (statement_return (Some height_limit) c.args.room c.args.tokens.now next) c.return_statement.ensures

pub statement-returns-in-StateWord : goal.statement-returns-in-StateWord
statement-returns-in-StateWord t c =
    let next : begins token_code (codes (StateWord ∷ [])) c.args.tokens.now ≡ true = search rules in
    rw (statement_state (Some height_limit) c.args.room c.args.tokens.now next) c.state_change.ensures

pub statement-returns-in_default : goal.statement-returns-in_default
statement-returns-in_default t c =
    let next : begins token_code (codes statement_words) c.args.tokens.now ≡ false = search rules in
    rw (statement_simple (Some height_limit) c.args.room c.args.tokens.now next) c.simple.ensures

pub statement-returns-in_default-sort : goal.statement-returns-in_default-sort
statement-returns-in_default-sort t c =
    let next : begins token_code (codes statement_words) c.args.tokens.now ≡ false = search rules in
    rw (statement_simple (Some height_limit) c.args.room c.args.tokens.now next) c.simple-in_default-sort.ensures

pub item-returns-then-is_type : goal.item-returns-then-is_type
unfolding item_r
item-returns-then-is_type t c = search rules

pub item-returns-then-is_at : goal.item-returns-then-is_at
unfolding item_r
item-returns-then-is_at t c = search rules

pub item-returns-in_err-statement : goal.item-returns-in_err-statement
unfolding item_r statement_r
item-returns-in_err-statement t c = search rules

pub item-returns-in_ok-statement : goal.item-returns-in_ok-statement
unfolding item_r statement_r
item-returns-in_ok-statement t c = search rules
