use Rattle.run16_cmd.proofs.Running.{setting_kept, one_stored, one_sent, one_cut, no_work, set_up}
use Rattle.run16_cmd.proofs.runner.ProgramRunnerRunner.one.Goals as goal

pub returns-clause-setting : goal.returns-clause-setting
returns-clause-setting c =
    let r = c.args.self.now in
    setting_kept _ _ r.signature.now _ _ _ _ c.in_ok-one_into.ensures.setting c.in_ok-one_into.ensures.sessions c.in_ok-one_into.ensures.bound

pub returns-clause-store : goal.returns-clause-store
returns-clause-store c =
    let r = c.args.self.now in
    one_stored (set_up r.runner.passes.blocks.setting r.signature.now r.runner.sessions.now r.runner.bound) r.bounded _ _ c.args.arrival.now _ _ c.in_ok-one_into.ensures.fate

pub returns-clause-work : goal.returns-clause-work
returns-clause-work c =
    let r = c.args.self.now in
    no_work (set_up r.runner.passes.blocks.setting r.signature.now r.runner.sessions.now r.runner.bound) _ c.args.arrival.now

pub returns-clause-sent : goal.returns-clause-sent
returns-clause-sent c =
    let r = c.args.self.now in
    one_sent (set_up r.runner.passes.blocks.setting r.signature.now r.runner.sessions.now r.runner.bound) r.bounded _ _ c.args.arrival.now _ _ c.in_ok-one_into.ensures.fate

pub returns-clause-cut : goal.returns-clause-cut
returns-clause-cut c =
    let r = c.args.self.now in
    one_cut (set_up r.runner.passes.blocks.setting r.signature.now r.runner.sessions.now r.runner.bound) r.bounded _ _ c.args.arrival.now _ _ c.in_ok-one_into.ensures.fate
