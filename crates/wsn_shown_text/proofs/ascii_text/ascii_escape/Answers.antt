use Rattle.std.proofs.Common.{rules}
use Rattle.wsn_shown_text.proofs.ascii_text.ascii_escape.Goals as goal

pub new-line-requires : goal.new-line-requires
new-line-requires c = search rules

pub overflow_cast-c : goal.overflow_cast-c
overflow_cast-c c = search rules

pub push_line-requires : goal.push_line-requires
push_line-requires c = search rules

pub overflow_cast-over : goal.overflow_cast-over
overflow_cast-over c = search rules

pub overflow_add-over : goal.overflow_add-over
overflow_add-over c = search rules

pub push_line-requires-else-c-lt65536 : goal.push_line-requires-else-c-lt65536
push_line-requires-else-c-lt65536 c = search rules

pub overflow_cast-over-else-c-lt65536 : goal.overflow_cast-over-else-c-lt65536
overflow_cast-over-else-c-lt65536 c = search rules

pub overflow_add-over-else-c-lt65536 : goal.overflow_add-over-else-c-lt65536
overflow_add-over-else-c-lt65536 c = search rules

pub push_line-requires-else-c-lt65536-2 : goal.push_line-requires-else-c-lt65536-2
push_line-requires-else-c-lt65536-2 c = search rules

pub returns-then-c-lt65536 : goal.returns-then-c-lt65536
returns-then-c-lt65536 c = search rules

pub returns-else-c-lt65536 : goal.returns-else-c-lt65536
returns-else-c-lt65536 c = search rules
