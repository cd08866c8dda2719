use Rattle.law_steps.proofs.laws.law_of_kept_runs.Goals as goal

pub returns : goal.returns
returns c =
    let here = c.law_of_conserved_executions.ensures in
    let there = c.law_of_conserved_deliveries.ensures in
    let rising = c.law_of_rising_accounts.ensures in
    record {
      kept = λ order w steps f. record {
        executions = λ account program x a g ok reach. here.inside order w steps account program x a g f ok reach;
        stopped_executions = λ account program x now stops. here.stopped order w steps account program x now f stops;
        deliveries = λ d a g ok on. there.inside order w steps d a g f ok on;
        stopped_deliveries = λ d now stops. there.stopped order w steps d now f stops;
      };
      rising = λ order w steps f. record {
        executions = λ account program x a g ok reach. rising.executions order w steps account program x a g f ok reach;
        deliveries = λ d a g ok reach. rising.deliveries order w steps d a g f ok reach;
      };
    }
