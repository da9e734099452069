-- `write_counts`: f in turn. The invariant: the lines of those passed are written.
use Rattle.std.specs.Prelude.{◌≡◌, true, List, ℕ, ◌+◌, ◌≤◌, get_or}
use Rattle.std.proofs.Common.{arith, rules}
use Rattle.protocol.specs.Job.{machines_of, job_in_range, job_of}
use Rattle.frames.specs.Decode.{decoded}
use Rattle.crashsets.specs.{Machines.few, Digits.{total_small, survived_small}}
use Rattle.crashsets.proofs.Digits.{nothing_yet, one_more, all_lines}
use Rattle.crashsets.proofs.write_counts.Goals as goal

-- the job has at most six machines
six : (l : List ℕ) (m : ℕ) → job_in_range (decoded l) ≡ true → m ≡ get_or (decoded l) 1 0 → (m ≡ (job_of (decoded l)).machines) × ((job_of (decoded l)).machines ≤ 6)
unfolding job_of machines_of
six l m good e = (e, few _ good)

pub loop-f-init : goal.loop-f-init
loop-f-init c = (search rules, nothing_yet _ _)

pub put_line-written-requires : goal.put_line-written-requires
put_line-written-requires c =
    let s = six _ _ c.requires.line_value c.byte-machines.ensures in
    let k = c.count-total in
    let j = job_of (decoded c.args.line.now) in
    (omega (arith, c.loop-f.auto.out, c.requires.in_bounds, c.loop-f.invariant.1.fits, s.1), omega (arith, s.1), omega (arith, k.ensures.all, total_small j c.loop-f.f s.1), omega (arith, k.ensures.good, survived_small j c.loop-f.f s.1))

pub loop-f-preserved : goal.loop-f-preserved
loop-f-preserved c =
    let s = six _ _ c.requires.line_value c.byte-machines.ensures in
    let k = c.count-total in
    let p = c.put_line-written in
    (search rules, one_more _ s.1 _ c.loop-f.f _ _ c.loop-f.invariant.1 (omega (arith, s.0)) _ _ _ _ k.ensures.all k.ensures.good p.ensures.end p.ensures.bytes)

pub returns : goal.returns
returns c =
    let s = six _ _ c.requires.line_value c.byte-machines.ensures in
    all_lines _ s.1 _ _ _ _ c.loop-f.invariant.1 (omega (arith, s.0))

-- the line of the last f
pub returns-2 : goal.returns-2
returns-2 c =
    let s = six _ _ c.requires.line_value c.byte-machines.ensures in
    let k = c.count-total in
    let p = c.put_line-written in
    all_lines _ s.1 _ (c.loop-f.f + 1) _ _
    (one_more _ s.1 _ c.loop-f.f _ _ c.loop-f.invariant.1 (omega (arith, s.0)) _ _ _ _ k.ensures.all k.ensures.good p.ensures.end p.ensures.bytes)
    (omega (arith, s.0))
