use Rattle.std.proofs.Common.{◌≡◌, ◌+◌, ◌-◌, min, ◌≤◌, length, take, Some, arith, ap, sym, ◌∙◌, IfSome, length-take}
use Rattle.nfg_io.specs.Files.{ReadsAt, opened_bytes}
use Rattle.nfg_run.proofs.ReadLemmas.{HasFile-grows, length-grown}
use Rattle.nfg_run.proofs.reading.read_up_to.Goals as goal

pub reading-preserved : goal.reading-preserved
reading-preserved g c =
    let i = c.reading.invariant in
    let read = c.in_ok-count.ensures in
    let grew = c.in_ok-append.ensures.ok in
    let count : length c.append.new.self ≡ length c.reading.bytes + c.in_ok-count.count =
    length-grown _ _ _ _ _ read.bound grew in
    let given : IfSome (opened_bytes (g.F.Files.state c.args.files.now).contents (Some c.args.path.now))
    (λ file. ReadsAt file (length c.reading.bytes) c.in_ok-count.count c.read.new.into) =
    rw (i.contents, i.open_path, i.position) at read.bytes in
    let same : length c.read.new.into ≡ length (take c.min-room.result c.reading.buffer) = c.read.auto.into in
    let small : length c.read.new.into ≤ c.min-room.result =
    omega (arith, same, length-take c.min-room.result c.reading.buffer) in
    let len : c.len-in-reading.result ≡ length c.reading.bytes = c.len-in-reading.ensures in
    let room : c.min-room.result ≡ min 65536 (c.args.limit - c.len-in-reading.result) = c.min-room.ensures in
    record {
      open_path = read.path ∙ i.open_path;
      unbroken = read.broken;
      contents = read.contents ∙ i.contents;
      position = read.moved ∙ (ap (λ n. n + c.in_ok-count.count) i.position ∙ sym count);
      file = HasFile-grows _ c.args.path.now c.reading.bytes c.read.new.into _ c.append.new.self c.in_ok-count.count
          i.file given read.bound grew;
      within = omega (arith, count, read.bound, small, len, room, i.within);
      never_falls = omega (arith, i.never_falls, read.never_falls);
    }
