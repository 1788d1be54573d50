use Rattle.std.proofs.Common.{Ok}
use Rattle.nfg_work.proofs.JobsDone.{job_at, job_grown, job_right}
use Rattle.nfg_work.proofs.job.do_job.Goals as goal

pub returns-in-Load-clause-grown : goal.returns-in-Load-clause-grown
returns-in-Load-clause-grown g c =
    job_grown c.args.work.script.now c.args.work.reads.now c.args.k (g.T.Synthetics.seen c.args.pass.now).known (g.T.Synthetics.seen c.load.new.pass).known c.load.result
    (job_at c.args.work.script.now c.args.work.reads.now c.args.k (g.T.Synthetics.seen c.args.pass.now).known (g.T.Synthetics.seen c.load.new.pass).known c.load.result _ _ c.requires.place c.command.ensures c.in-Load.is
    (λ numbered here command. c.load.ensures.done numbered c.in-Load.name here command))

pub returns-in-Load-clause-right : goal.returns-in-Load-clause-right
returns-in-Load-clause-right g c =
    job_right c.args.work.script.now c.args.work.reads.now c.args.k (g.T.Synthetics.seen c.args.pass.now).known (g.T.Synthetics.seen c.load.new.pass).known c.load.result
    (job_at c.args.work.script.now c.args.work.reads.now c.args.k (g.T.Synthetics.seen c.args.pass.now).known (g.T.Synthetics.seen c.load.new.pass).known c.load.result _ _ c.requires.place c.command.ensures c.in-Load.is
    (λ numbered here command. c.load.ensures.done numbered c.in-Load.name here command))

pub returns-in-Text-clause-grown : goal.returns-in-Text-clause-grown
returns-in-Text-clause-grown g c =
    job_grown c.args.work.script.now c.args.work.reads.now c.args.k (g.T.Synthetics.seen c.args.pass.now).known (g.T.Synthetics.seen c.text.new.pass).known c.text.result
    (job_at c.args.work.script.now c.args.work.reads.now c.args.k (g.T.Synthetics.seen c.args.pass.now).known (g.T.Synthetics.seen c.text.new.pass).known c.text.result _ _ c.requires.place c.command.ensures c.in-Text.is
    (λ numbered here command. c.text.ensures.done numbered c.in-Text.name here command))

pub returns-in-Text-clause-right : goal.returns-in-Text-clause-right
returns-in-Text-clause-right g c =
    job_right c.args.work.script.now c.args.work.reads.now c.args.k (g.T.Synthetics.seen c.args.pass.now).known (g.T.Synthetics.seen c.text.new.pass).known c.text.result
    (job_at c.args.work.script.now c.args.work.reads.now c.args.k (g.T.Synthetics.seen c.args.pass.now).known (g.T.Synthetics.seen c.text.new.pass).known c.text.result _ _ c.requires.place c.command.ensures c.in-Text.is
    (λ numbered here command. c.text.ensures.done numbered c.in-Text.name here command))

pub returns-in-Cat-clause-grown : goal.returns-in-Cat-clause-grown
returns-in-Cat-clause-grown g c =
    job_grown c.args.work.script.now c.args.work.reads.now c.args.k (g.T.Synthetics.seen c.args.pass.now).known (g.T.Synthetics.seen c.cat.new.pass).known c.cat.result
    (job_at c.args.work.script.now c.args.work.reads.now c.args.k (g.T.Synthetics.seen c.args.pass.now).known (g.T.Synthetics.seen c.cat.new.pass).known c.cat.result _ _ c.requires.place c.command.ensures c.in-Cat.is
    (λ numbered here command. c.cat.ensures.done numbered c.in-Cat.name here command))

pub returns-in-Cat-clause-right : goal.returns-in-Cat-clause-right
returns-in-Cat-clause-right g c =
    job_right c.args.work.script.now c.args.work.reads.now c.args.k (g.T.Synthetics.seen c.args.pass.now).known (g.T.Synthetics.seen c.cat.new.pass).known c.cat.result
    (job_at c.args.work.script.now c.args.work.reads.now c.args.k (g.T.Synthetics.seen c.args.pass.now).known (g.T.Synthetics.seen c.cat.new.pass).known c.cat.result _ _ c.requires.place c.command.ensures c.in-Cat.is
    (λ numbered here command. c.cat.ensures.done numbered c.in-Cat.name here command))

pub returns-in-Sub-clause-grown : goal.returns-in-Sub-clause-grown
returns-in-Sub-clause-grown g c =
    job_grown c.args.work.script.now c.args.work.reads.now c.args.k (g.T.Synthetics.seen c.args.pass.now).known (g.T.Synthetics.seen c.args.pass.now).known c.sub.result
    (job_at c.args.work.script.now c.args.work.reads.now c.args.k (g.T.Synthetics.seen c.args.pass.now).known (g.T.Synthetics.seen c.args.pass.now).known c.sub.result _ _ c.requires.place c.command.ensures c.in-Sub.is
    (λ numbered here command. c.sub.ensures (g.T.Synthetics.size c.args.table.now) (g.T.Synthetics.seen c.args.pass.now).known (g.T.Synthetics.seen c.args.pass.now).places
    (g.met.T.Synthetics.knows c.args.table.now c.args.pass.now c.requires.table) c.requires.outcomes numbered c.in-Sub.name here command))

pub returns-in-Sub-clause-right : goal.returns-in-Sub-clause-right
returns-in-Sub-clause-right g c =
    job_right c.args.work.script.now c.args.work.reads.now c.args.k (g.T.Synthetics.seen c.args.pass.now).known (g.T.Synthetics.seen c.args.pass.now).known c.sub.result
    (job_at c.args.work.script.now c.args.work.reads.now c.args.k (g.T.Synthetics.seen c.args.pass.now).known (g.T.Synthetics.seen c.args.pass.now).known c.sub.result _ _ c.requires.place c.command.ensures c.in-Sub.is
    (λ numbered here command. c.sub.ensures (g.T.Synthetics.size c.args.table.now) (g.T.Synthetics.seen c.args.pass.now).known (g.T.Synthetics.seen c.args.pass.now).places
    (g.met.T.Synthetics.knows c.args.table.now c.args.pass.now c.requires.table) c.requires.outcomes numbered c.in-Sub.name here command))

pub returns-in-Rep-clause-grown : goal.returns-in-Rep-clause-grown
returns-in-Rep-clause-grown g c =
    job_grown c.args.work.script.now c.args.work.reads.now c.args.k (g.T.Synthetics.seen c.args.pass.now).known (g.T.Synthetics.seen c.rep.new.pass).known c.rep.result
    (job_at c.args.work.script.now c.args.work.reads.now c.args.k (g.T.Synthetics.seen c.args.pass.now).known (g.T.Synthetics.seen c.rep.new.pass).known c.rep.result _ _ c.requires.place c.command.ensures c.in-Rep.is
    (λ numbered here command. c.rep.ensures.done numbered c.in-Rep.name here command))

pub returns-in-Rep-clause-right : goal.returns-in-Rep-clause-right
returns-in-Rep-clause-right g c =
    job_right c.args.work.script.now c.args.work.reads.now c.args.k (g.T.Synthetics.seen c.args.pass.now).known (g.T.Synthetics.seen c.rep.new.pass).known c.rep.result
    (job_at c.args.work.script.now c.args.work.reads.now c.args.k (g.T.Synthetics.seen c.args.pass.now).known (g.T.Synthetics.seen c.rep.new.pass).known c.rep.result _ _ c.requires.place c.command.ensures c.in-Rep.is
    (λ numbered here command. c.rep.ensures.done numbered c.in-Rep.name here command))

pub returns-in-Find-clause-grown : goal.returns-in-Find-clause-grown
returns-in-Find-clause-grown g c =
    job_grown c.args.work.script.now c.args.work.reads.now c.args.k (g.T.Synthetics.seen c.args.pass.now).known (g.T.Synthetics.seen c.args.pass.now).known (Ok c.find.result)
    (job_at c.args.work.script.now c.args.work.reads.now c.args.k (g.T.Synthetics.seen c.args.pass.now).known (g.T.Synthetics.seen c.args.pass.now).known (Ok c.find.result) _ _ c.requires.place c.command.ensures c.in-Find.is
    (λ numbered here command. c.find.ensures numbered here command))

pub returns-in-Find-clause-right : goal.returns-in-Find-clause-right
returns-in-Find-clause-right g c =
    job_right c.args.work.script.now c.args.work.reads.now c.args.k (g.T.Synthetics.seen c.args.pass.now).known (g.T.Synthetics.seen c.args.pass.now).known (Ok c.find.result)
    (job_at c.args.work.script.now c.args.work.reads.now c.args.k (g.T.Synthetics.seen c.args.pass.now).known (g.T.Synthetics.seen c.args.pass.now).known (Ok c.find.result) _ _ c.requires.place c.command.ensures c.in-Find.is
    (λ numbered here command. c.find.ensures numbered here command))

pub returns-in-Rfind-clause-grown : goal.returns-in-Rfind-clause-grown
returns-in-Rfind-clause-grown g c =
    job_grown c.args.work.script.now c.args.work.reads.now c.args.k (g.T.Synthetics.seen c.args.pass.now).known (g.T.Synthetics.seen c.args.pass.now).known (Ok c.rfind.result)
    (job_at c.args.work.script.now c.args.work.reads.now c.args.k (g.T.Synthetics.seen c.args.pass.now).known (g.T.Synthetics.seen c.args.pass.now).known (Ok c.rfind.result) _ _ c.requires.place c.command.ensures c.in-Rfind.is
    (λ numbered here command. c.rfind.ensures numbered here command))

pub returns-in-Rfind-clause-right : goal.returns-in-Rfind-clause-right
returns-in-Rfind-clause-right g c =
    job_right c.args.work.script.now c.args.work.reads.now c.args.k (g.T.Synthetics.seen c.args.pass.now).known (g.T.Synthetics.seen c.args.pass.now).known (Ok c.rfind.result)
    (job_at c.args.work.script.now c.args.work.reads.now c.args.k (g.T.Synthetics.seen c.args.pass.now).known (g.T.Synthetics.seen c.args.pass.now).known (Ok c.rfind.result) _ _ c.requires.place c.command.ensures c.in-Rfind.is
    (λ numbered here command. c.rfind.ensures numbered here command))

pub returns-in-Eq-clause-grown : goal.returns-in-Eq-clause-grown
returns-in-Eq-clause-grown g c =
    job_grown c.args.work.script.now c.args.work.reads.now c.args.k (g.T.Synthetics.seen c.args.pass.now).known (g.T.Synthetics.seen c.args.pass.now).known (Ok c.eq.result)
    (job_at c.args.work.script.now c.args.work.reads.now c.args.k (g.T.Synthetics.seen c.args.pass.now).known (g.T.Synthetics.seen c.args.pass.now).known (Ok c.eq.result) _ _ c.requires.place c.command.ensures c.in-Eq.is
    (λ numbered here command. c.eq.ensures numbered here command))

pub returns-in-Eq-clause-right : goal.returns-in-Eq-clause-right
returns-in-Eq-clause-right g c =
    job_right c.args.work.script.now c.args.work.reads.now c.args.k (g.T.Synthetics.seen c.args.pass.now).known (g.T.Synthetics.seen c.args.pass.now).known (Ok c.eq.result)
    (job_at c.args.work.script.now c.args.work.reads.now c.args.k (g.T.Synthetics.seen c.args.pass.now).known (g.T.Synthetics.seen c.args.pass.now).known (Ok c.eq.result) _ _ c.requires.place c.command.ensures c.in-Eq.is
    (λ numbered here command. c.eq.ensures numbered here command))

pub returns-in-Cmp-clause-grown : goal.returns-in-Cmp-clause-grown
returns-in-Cmp-clause-grown g c =
    job_grown c.args.work.script.now c.args.work.reads.now c.args.k (g.T.Synthetics.seen c.args.pass.now).known (g.T.Synthetics.seen c.cmp.new.pass).known (Ok c.cmp.result)
    (job_at c.args.work.script.now c.args.work.reads.now c.args.k (g.T.Synthetics.seen c.args.pass.now).known (g.T.Synthetics.seen c.cmp.new.pass).known (Ok c.cmp.result) _ _ c.requires.place c.command.ensures c.in-Cmp.is
    (λ numbered here command. c.cmp.ensures.done numbered here command))

pub returns-in-Cmp-clause-right : goal.returns-in-Cmp-clause-right
returns-in-Cmp-clause-right g c =
    job_right c.args.work.script.now c.args.work.reads.now c.args.k (g.T.Synthetics.seen c.args.pass.now).known (g.T.Synthetics.seen c.cmp.new.pass).known (Ok c.cmp.result)
    (job_at c.args.work.script.now c.args.work.reads.now c.args.k (g.T.Synthetics.seen c.args.pass.now).known (g.T.Synthetics.seen c.cmp.new.pass).known (Ok c.cmp.result) _ _ c.requires.place c.command.ensures c.in-Cmp.is
    (λ numbered here command. c.cmp.ensures.done numbered here command))
