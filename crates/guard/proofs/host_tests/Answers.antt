-- `guard::host_tests` meets its contract: only the used words count for validity.
use mathlib.Core.Path.{sym, ◌∙◌}
use Prim.Native.Nat.{◌<◌, ◌≤◌}
use borrow.Author.Tests.{lt-ltb, le-ltb}
use Rattle.model.specs.Numbers.{table_words, answer_room}
use Rattle.model.specs.Steps.{host_refusal}
use Rattle.table.proofs.Theorems.{valid_front}
use Rattle.guard.proofs.host_tests.Goals as goal

pub returns-then-table-lt-TABLE_WORDS : goal.returns-then-table-lt-TABLE_WORDS
unfolding host_refusal
returns-then-table-lt-TABLE_WORDS c =
    let short : _ < table_words = c.if-table-lt-TABLE_WORDS.true in rw (lt-ltb _ _ short)

pub returns-then-room-lt-ANSWER_ROOM : goal.returns-then-room-lt-ANSWER_ROOM
unfolding host_refusal
returns-then-room-lt-ANSWER_ROOM c =
    let long : table_words ≤ _ = c.if-table-lt-TABLE_WORDS.false in
    let short : _ < answer_room = c.if-room-lt-ANSWER_ROOM.true in
    rw (le-ltb _ _ long, lt-ltb _ _ short)

pub returns-then-not-valid : goal.returns-then-not-valid
unfolding host_refusal
returns-then-not-valid c =
    let v = sym (valid_front c.args.table.now) ∙ sym c.valid.ensures ∙ c.if-not-valid.true in
    rw (le-ltb _ _ c.if-table-lt-TABLE_WORDS.false, le-ltb _ _ c.if-room-lt-ANSWER_ROOM.false, v)

pub returns : goal.returns
unfolding host_refusal
returns c =
    let v = sym (valid_front c.args.table.now) ∙ sym c.valid.ensures ∙ c.if-not-valid.false in
    let spacious : answer_room ≤ _ = c.if-room-lt-ANSWER_ROOM.false in
    rw (le-ltb _ _ c.if-table-lt-TABLE_WORDS.false, le-ltb _ _ spacious, v)
