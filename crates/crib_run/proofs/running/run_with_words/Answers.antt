use Rattle.std.proofs.Common.{Ok, Err, rules}
use Rattle.crib_run.specs.Run.{Delivers}
use Rattle.crib_run.proofs.Delivery.{silent, told}
use Rattle.crib_run.proofs.Runs.{run_means}
use Rattle.crib_run.proofs.running.run_with_words.Goals as goal

pub returns-in-Ok : goal.returns-in-Ok
returns-in-Ok g c =
    let (reply, makes, sent, words) = c.answer.ensures in
    let run : Delivers _ _ _ _ _ _ _ = record {
      read = Ok c.as_slice.result.now;
      gave = search rules;
      reply = reply;
      answers = makes;
      sent = sent;
    } in
    record {
      answers = run;
      means = run_means _ _ c.requires _ _ _ _ _ _ run;
      words = (run, words);
      silent = silent _ _ _ _ _ _ _ words;
    }

pub returns-in-Err : goal.returns-in-Err
returns-in-Err g c =
    let run : Delivers _ _ _ _ _ _ _ = record {
      read = Err c.in-Err.fault.cause;
      gave = search rules;
      reply = _;
      answers = c.unread_reason-reason.ensures.reply;
      sent = c.deliver_reason.ensures.sent;
    } in
    let words = told _ _ _ _ _ _ _ _ c.unread_reason-reason.ensures.told (rw c.sections.ensures at c.deliver_reason.ensures.words) in
    record {
      answers = run;
      means = run_means _ _ c.requires _ _ _ _ _ _ run;
      words = (run, words);
      silent = silent _ _ _ _ _ _ _ words;
    }
