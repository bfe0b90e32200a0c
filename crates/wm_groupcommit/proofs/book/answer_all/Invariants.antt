use Rattle.std.proofs.Common.{◌≡◌, ◌+◌, ◌≤◌, ◌++◌, length, vec_capacity, vec_len}
use Rattle.wm_groupcommit.specs.Books.{accepted_calls, answers_from}
use Rattle.wm_groupcommit.proofs.Answering.{at_after}
use Rattle.wm_groupcommit.proofs.book.answer_all.Given as goal

abbrev pub invariant-loop-call : goal.invariant-loop-call
invariant-loop-call l = record {
  answers : l.answers.items ≡ answers_from l.fn.at l.yielded l.replies.items;
  at : l.at ≡ at_after l.fn.at l.yielded l.replies.items;
  few : l.at ≤ l.fn.at + length l.yielded;
  next : l.next ≡ length l.yielded;
  len : vec_len l.answers ≡ length l.yielded;
  room : vec_capacity l.answers ≡ vec_capacity l.initial.answers;
  list : l.history.list ≡ l.initial.history.list ++ accepted_calls l.yielded l.replies.items;
  base : l.history.base ≡ l.initial.history.base;
  count : l.at ≡ l.fn.at + length (accepted_calls l.yielded l.replies.items);
}
