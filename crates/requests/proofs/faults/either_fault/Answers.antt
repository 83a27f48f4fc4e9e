use Rattle.std.proofs.Common.{rules}
use Rattle.requests.proofs.AnswerLaws.{append_given, append_none}
use Rattle.requests.proofs.PairLaws.{faults_positive}
use Rattle.requests.proofs.WordLaws.{some_reason}
use Rattle.requests.proofs.faults.either_fault.Goals as goal

pub returns-in_err-fault : goal.returns-in_err-fault
returns-in_err-fault c = search (rules, append_given, some_reason)

pub returns : goal.returns
returns c = search (rules, append_none, faults_positive)
