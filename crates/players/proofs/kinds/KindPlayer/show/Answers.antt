use Rattle.players.proofs.kinds.KindPlayer.show.Goals as goal

pub returns-in-Script-clause-plan : goal.returns-in-Script-clause-plan
returns-in-Script-clause-plan g c = rw c.in-Script.is c.show.ensures.plan

pub returns-in-Stepper-clause-plan : goal.returns-in-Stepper-clause-plan
returns-in-Stepper-clause-plan g c = rw c.in-Stepper.is c.show-in-Stepper.ensures.plan
