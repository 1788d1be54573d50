use Rattle.std.proofs.Common.{◌≤◌, ◌∷◌, [], ◌+◌, drop, length, Some, IfSome, refl, sym, subst, ◌∙◌, arith}
use Rattle.nfg_io.specs.Files.{HasFailedAt}
use Rattle.nfg_script.specs.Script.{load_paths}
use Rattle.nfg_run.specs.Headline.{failed_load}
use Rattle.nfg_run.proofs.Answered.{HasFailedAt-earlier, IfSome-none, IfSome-some}
use Rattle.nfg_run.proofs.LastOpen.{OpensGoOn, OpensGoOn-first, OpensGoOn-bytes, OpensGoOn-too_long, OpensGoOn-failed, OpensGoOn-last}
use Rattle.nfg_run.proofs.Loads.{LoadsGoOn, IsNextRead, LoadsGoOn-first, LoadsGoOn-bytes, LoadsGoOn-too_long, LoadsGoOn-failed, LoadsGoOn-last}
use Rattle.nfg_run.proofs.reading.read_loads.Goals as goal

pub loading-init : goal.loading-init
loading-init g c =
    let contents = (g.F.Files.state c.args.files.now).contents in
    let paths = load_paths c.args.script.now in
    record {
      contents = refl;
      never_falls = omega arith;
      goes_on = subst (λ v. LoadsGoOn contents paths v paths 0) (sym c.new-reads.ensures.items) (LoadsGoOn-first contents paths);
      opens = λ last most is. subst (λ v. OpensGoOn (g.F.Files.state c.args.files.now) last most paths v paths 0) (sym c.new-reads.ensures.items)
          (OpensGoOn-first (g.F.Files.state c.args.files.now) last most paths is);
    }

pub loading-preserved-in_default : goal.loading-preserved-in_default
loading-preserved-in_default g c =
    let i = c.loading.invariant in
    let contents = (g.F.Files.state c.args.files.now).contents in
    let paths = load_paths c.args.script.now in
    record {
      contents = i.contents;
      never_falls = i.never_falls;
      goes_on = subst (λ v. LoadsGoOn contents paths c.loading.reads.items v c.loading.earlier) c.in_default.ensures i.goes_on;
      opens = λ last most is. subst (λ v. OpensGoOn (g.F.Files.state c.loading.files) last most paths c.loading.reads.items v c.loading.earlier)
          c.in_default.ensures (i.opens last most is);
    }

pub read_load-requires : goal.read_load-requires
read_load-requires g c = c.loading.invariant.goes_on.within

pub returns-in_err-bytes-clause-never_falls : goal.returns-in_err-bytes-clause-never_falls
returns-in_err-bytes-clause-never_falls g c = omega (arith, c.loading.invariant.never_falls, c.read_load.ensures.never_falls)

pub returns-in_err-push-in-Bytes-clause-never_falls : goal.returns-in_err-push-in-Bytes-clause-never_falls
returns-in_err-push-in-Bytes-clause-never_falls g c = omega (arith, c.loading.invariant.never_falls, c.read_load.ensures.never_falls)

pub returns-in_err-push-in-TooLong-clause-never_falls : goal.returns-in_err-push-in-TooLong-clause-never_falls
returns-in_err-push-in-TooLong-clause-never_falls g c = omega (arith, c.loading.invariant.never_falls, c.read_load.ensures.never_falls)

pub returns-in-TooLong-clause-read : goal.returns-in-TooLong-clause-read
returns-in-TooLong-clause-read g c =
    let i = c.loading.invariant in
    let contents = (g.F.Files.state c.args.files.now).contents in
    let paths = load_paths c.args.script.now in
    let left = load_paths (drop c.loading.k c.args.script.now) in
    let rest = load_paths (drop (c.loading.k + 1) c.args.script.now) in
    let is : IsNextRead contents left c.loading.earlier c.in-Some.path.now rest c.in_ok-bytes.field-0 =
    record { next = c.in-Some.ensures; here = (g.F.Files.state c.loading.files).contents; unchanged = i.contents; one = c.in_ok-bytes.ensures.read } in
    (LoadsGoOn-too_long contents paths c.loading.reads.items c.push-in-TooLong.new.self.items left c.loading.earlier
    c.in-Some.path.now rest c.in_ok-bytes.field-0 i.goes_on is c.in-TooLong.is c.in_ok-push-in-TooLong.ensures.items).0

pub returns-in-TooLong-clause-failed : goal.returns-in-TooLong-clause-failed
returns-in-TooLong-clause-failed g c =
    let i = c.loading.invariant in
    let contents = (g.F.Files.state c.args.files.now).contents in
    let paths = load_paths c.args.script.now in
    let left = load_paths (drop c.loading.k c.args.script.now) in
    let rest = load_paths (drop (c.loading.k + 1) c.args.script.now) in
    let is : IsNextRead contents left c.loading.earlier c.in-Some.path.now rest c.in_ok-bytes.field-0 =
    record { next = c.in-Some.ensures; here = (g.F.Files.state c.loading.files).contents; unchanged = i.contents; one = c.in_ok-bytes.ensures.read } in
    IfSome-none _ _ (LoadsGoOn-too_long contents paths c.loading.reads.items c.push-in-TooLong.new.self.items left c.loading.earlier
    c.in-Some.path.now rest c.in_ok-bytes.field-0 i.goes_on is c.in-TooLong.is c.in_ok-push-in-TooLong.ensures.items).1

pub returns-in-TooLong-clause-never_falls : goal.returns-in-TooLong-clause-never_falls
returns-in-TooLong-clause-never_falls g c = omega (arith, c.loading.invariant.never_falls, c.read_load.ensures.never_falls)

pub returns-in_err-push-in-Failed-clause-never_falls : goal.returns-in_err-push-in-Failed-clause-never_falls
returns-in_err-push-in-Failed-clause-never_falls g c = omega (arith, c.loading.invariant.never_falls, c.read_load.ensures.never_falls)

pub returns-in-Failed-clause-read : goal.returns-in-Failed-clause-read
returns-in-Failed-clause-read g c =
    let i = c.loading.invariant in
    let contents = (g.F.Files.state c.args.files.now).contents in
    let paths = load_paths c.args.script.now in
    let left = load_paths (drop c.loading.k c.args.script.now) in
    let rest = load_paths (drop (c.loading.k + 1) c.args.script.now) in
    (LoadsGoOn-failed contents paths c.loading.reads.items c.push-in-Failed.new.self.items left c.loading.earlier
    c.in-Some.path.now rest i.goes_on c.in-Some.ensures c.in_ok-push-in-Failed.ensures.items).0

pub returns-in-Failed-clause-failed : goal.returns-in-Failed-clause-failed
returns-in-Failed-clause-failed g c =
    let i = c.loading.invariant in
    let contents = (g.F.Files.state c.args.files.now).contents in
    let paths = load_paths c.args.script.now in
    let left = load_paths (drop c.loading.k c.args.script.now) in
    let rest = load_paths (drop (c.loading.k + 1) c.args.script.now) in
    let P = HasFailedAt (g.F.Files.state c.loading.files) (g.F.Files.state c.read_load.new.files) in
    let failed : IfSome (Some c.in-Some.path.now) P =
    subst (λ v. IfSome (failed_load (c.in-Some.path.now ∷ []) (v ∷ [])) P) c.in-Failed.is c.in_ok-bytes.ensures.failed in
    IfSome-some _ _ c.in-Some.path.now
    (LoadsGoOn-failed contents paths c.loading.reads.items c.push-in-Failed.new.self.items left c.loading.earlier
    c.in-Some.path.now rest i.goes_on c.in-Some.ensures c.in_ok-push-in-Failed.ensures.items).1
    (HasFailedAt-earlier (g.F.Files.state c.args.files.now) _ _ (Some c.in-Some.path.now) i.never_falls failed)

pub returns-in-Failed-clause-never_falls : goal.returns-in-Failed-clause-never_falls
returns-in-Failed-clause-never_falls g c = omega (arith, c.loading.invariant.never_falls, c.read_load.ensures.never_falls)

pub loading-preserved : goal.loading-preserved
loading-preserved g c =
    let i = c.loading.invariant in
    let contents = (g.F.Files.state c.args.files.now).contents in
    let paths = load_paths c.args.script.now in
    let left = load_paths (drop c.loading.k c.args.script.now) in
    let rest = load_paths (drop (c.loading.k + 1) c.args.script.now) in
    let is : IsNextRead contents left c.loading.earlier c.in-Some.path.now rest c.in_ok-bytes.field-0 =
    record { next = c.in-Some.ensures; here = (g.F.Files.state c.loading.files).contents; unchanged = i.contents; one = c.in_ok-bytes.ensures.read } in
    record {
      contents = c.read_load.ensures.contents ∙ i.contents;
      never_falls = omega (arith, i.never_falls, c.read_load.ensures.never_falls);
      goes_on = subst (λ n. LoadsGoOn contents paths c.push.new.self.items rest (c.loading.earlier + n)) (sym c.len-earlier.ensures)
          (LoadsGoOn-bytes contents paths c.loading.reads.items c.push.new.self.items left c.loading.earlier
          c.in-Some.path.now rest c.in_ok-bytes.field-0 c.in-Bytes.bytes i.goes_on is c.in-Bytes.is c.in_ok-push-in-Bytes.ensures.items);
      opens = λ last most before. subst (λ n. OpensGoOn (g.F.Files.state c.read_load.new.files) last most paths c.push.new.self.items rest (c.loading.earlier + n))
          (sym c.len-earlier.ensures)
          (OpensGoOn-bytes (g.F.Files.state c.loading.files) _ last most paths c.loading.reads.items c.push.new.self.items left c.loading.earlier
          c.in-Some.path.now rest c.in-Bytes.bytes (i.opens last most before) c.in-Some.ensures c.in_ok-push-in-Bytes.ensures.items
          c.in_ok-bytes.ensures.is_open);
    }

pub returns-clause-read : goal.returns-clause-read
returns-clause-read g c =
    let past : length c.args.script.now ≤ c.loading.k = omega (arith, c.loading-test.false, c.len-k-end.ensures) in
    (LoadsGoOn-last _ c.args.script.now c.loading.reads.items c.loading.k c.loading.earlier c.loading.invariant.goes_on past).0

pub returns-clause-failed : goal.returns-clause-failed
returns-clause-failed g c =
    let past : length c.args.script.now ≤ c.loading.k = omega (arith, c.loading-test.false, c.len-k-end.ensures) in
    IfSome-none _ _
    (LoadsGoOn-last _ c.args.script.now c.loading.reads.items c.loading.k c.loading.earlier c.loading.invariant.goes_on past).1

pub returns-clause-never_falls : goal.returns-clause-never_falls
returns-clause-never_falls g c = c.loading.invariant.never_falls

pub returns-in-TooLong-clause-last_open : goal.returns-in-TooLong-clause-last_open
returns-in-TooLong-clause-last_open g c = λ last most before.
    OpensGoOn-too_long (g.F.Files.state c.loading.files) _ last most (load_paths c.args.script.now) c.loading.reads.items c.push-in-TooLong.new.self.items
    (load_paths (drop c.loading.k c.args.script.now)) c.loading.earlier c.in-Some.path.now (load_paths (drop (c.loading.k + 1) c.args.script.now))
    (c.loading.invariant.opens last most before) c.in-Some.ensures c.in_ok-push-in-TooLong.ensures.items c.in_ok-bytes.ensures.is_open

pub returns-in-Failed-clause-last_open : goal.returns-in-Failed-clause-last_open
returns-in-Failed-clause-last_open g c = λ last most before.
    OpensGoOn-failed (g.F.Files.state c.loading.files) _ last most (load_paths c.args.script.now) c.loading.reads.items c.push-in-Failed.new.self.items
    (load_paths (drop c.loading.k c.args.script.now)) c.loading.earlier c.in-Some.path.now (load_paths (drop (c.loading.k + 1) c.args.script.now))
    (c.loading.invariant.opens last most before) c.in-Some.ensures c.in_ok-push-in-Failed.ensures.items c.in_ok-bytes.ensures.is_open

pub returns-clause-last_open : goal.returns-clause-last_open
returns-clause-last_open g c = λ last most before.
    let past : length c.args.script.now ≤ c.loading.k = omega (arith, c.loading-test.false, c.len-k-end.ensures) in
    OpensGoOn-last _ last most c.args.script.now c.loading.reads.items c.loading.k c.loading.earlier (c.loading.invariant.opens last most before) past
