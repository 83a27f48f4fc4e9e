use Rattle.std.proofs.Common.{rules}
use Rattle.requests.specs.Answers.{first}
use Rattle.requests.specs.Sizes.{over}
use Rattle.requests.proofs.WordLaws.{some_reason}
use Rattle.requests.proofs.PairLaws.{pair_positive}
use Rattle.requests.proofs.AnswerLaws.{append_given, append_none}
use Rattle.requests.proofs.SizeLaws.{over_rows, over_columns}
use Rattle.matrix.specs.Misfit.{misfit}
use Rattle.matrix.specs.Turn.{found_tests}
use Rattle.matrix.proofs.JobLaws.{fit_table, fit_product, table_small, product_small}
use Rattle.matrix.proofs.turn.judged.Goals as goal

pub either_fault-requires : goal.either_fault-requires
unfolding misfit
either_fault-requires c = search rules

pub returns-in_err-either_fault : goal.returns-in_err-either_fault
unfolding found_tests first
returns-in_err-either_fault c = search (rules, append_given, some_reason)

pub either_fault-requires-2 : goal.either_fault-requires-2
unfolding over
either_fault-requires-2 c = search (rules, table_small, product_small, over_rows, over_columns, fit_table, fit_product)

pub returns : goal.returns
unfolding found_tests first
returns c = search (rules, append_none, pair_positive)
