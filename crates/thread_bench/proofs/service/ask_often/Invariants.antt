use Rattle.thread_bench.specs.Service.{IsClientOf}
use Rattle.thread_bench.proofs.service.ask_often.Given as goal

abbrev pub invariant-loop : goal.invariant-loop
invariant-loop g l = IsClientOf l.service l.idle
