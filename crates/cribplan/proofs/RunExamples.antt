-- Worked examples of what a run guarantees.
use Rattle.std.proofs.Common.{refl, sym, subst, inl, inr, [], Some}
use Rattle.crib_answer.specs.declared.job.Job.TheVariants.{Check}
use Rattle.crib_run.specs.declared.status.Status.TheVariants.{Yes, Fault}
use Rattle.crib_answer.specs.Meaning.{CheckMeans, StatusMeans}
use Rattle.crib_run.specs.Run.{RunMeans}
use Rattle.crib_input.proofs.EmptyExamples.{no_plan_in_nothing}

-- ---- a run means what its reply means. If a device failed, the status is `Fault`
pub no_yes_of_nothing : RunMeans (StatusMeans Check) [] (Some []) (Some []) (Unit {0}) Yes → ⊥
no_yes_of_nothing (inl means) = (let sure = subst (λ status. CheckMeans [] means.0.output status) (sym means.3) means.1 in
    no_plan_in_nothing sure.0.problem sure.0.plan sure.0.spelled)
no_yes_of_nothing (inr means) = (let ended = means.0 in cc)

pub a_device_failed : RunMeans (StatusMeans Check) [] (Some []) (Some []) (Unit {0}) Fault
a_device_failed = inr (refl, tt)
