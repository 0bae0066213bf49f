-- The number at hand is called for and tested against its kind; in its range, it goes over into what is counted. At the list's end the kinds
-- that it calls for decide.
use Rattle.std.proofs.Common.{rules, ◌≡◌, refl, ◌+◌, ◌<◌, ℤ, pos, length, get_or, sym, ◌∙◌, ap, ap₂, arith}
use mir.Syntax.{w32}
use mir.Val.{SFits}
use mir.Facts.{to_z-of_z}
use Rattle.wire.specs.Writing.{bytes_of}
use Rattle.wire.proofs.Writing.{bytes_of-most}
use Rattle.refusals.specs.Table.{allowed, refusal_of}
use Rattle.block.specs.Conditions.{called_for}
use Rattle.records.specs.Writing.{plain_of}
use Rattle.records.specs.Steps.{kind_at}
use Rattle.records.proofs.Places.{called_here, called_none, written_at}
use Rattle.records.proofs.Checking.{Checking, checking_start, checking_more, ends_short, ends_turned, ends_long, ends_fine}
use Rattle.records.proofs.NumberList.check.Goals as goal
use Rattle.records.proofs.NumberList.check.Goals.{After-allowed, After-plain}

-- The number at hand, and its test
module _ (c : After-allowed) where
  abbrev number : ℤ
  number = get_or c.args.self.now.numbers.now c.loop-i.i (pos 0)

  fits : SFits w32 number
  fits = search rules

  test : c.allowed.result ≡ allowed (kind_at c.args.self.now.layout c.args.self.now.numbers.now c.loop-i.i) number
  test = c.allowed.ensures ∙ ap₂ allowed c.kind_at-kind.ensures (to_z-of_z {w = w32} fits)

  is_called : c.loop-i.i < length (called_for c.args.self.now.layout c.args.self.now.numbers.now)
  is_called = called_here c.called.ensures c.if-called-i.false

-- One turn
module _ (c : After-plain) where
  abbrev tested : After-allowed
  tested = (goal.at.group_count-size-requires c).After-allowed

  plain_is : c.plain.result ≡ plain_of (kind_at c.args.self.now.layout c.args.self.now.numbers.now c.loop-i.i) (number tested)
  plain_is = c.plain.ensures ∙ ap₂ plain_of c.kind_at-kind.ensures (to_z-of_z {w = w32} (fits tested))

  more : (size : _) → size ≡ length (bytes_of c.plain.result) → Checking c.args.self.now.layout c.args.self.now.numbers.now (c.loop-i.i + 1) (c.loop-i.size + size)
  more size e =
      checking_more c.args.self.now.layout c.args.self.now.numbers.now c.loop-i.i c.loop-i.size c.loop-i.invariant (is_called tested) c.loop-i-test.true
      (sym (test tested) ∙ c.if-not-allowed.false) size (e ∙ ap (λ n. length (bytes_of n)) plain_is)

pub loop-i-init : goal.loop-i-init
loop-i-init c = checking_start _ _

pub returns-then-called-i : goal.returns-then-called-i
returns-then-called-i c =
    ends_long c.args.self.now.layout _ _ _ c.loop-i.invariant (called_none c.called.ensures c.if-called-i.true) c.loop-i-test.true

pub returns-then-not-allowed : goal.returns-then-not-allowed
returns-then-not-allowed c =
    let h = (goal.at.returns-then-not-allowed c).After-allowed in
    let is : c.refusal_of.result ≡ refusal_of (kind_at c.args.self.now.layout c.args.self.now.numbers.now c.loop-i.i) (number h) =
    c.refusal_of.ensures ∙ ap₂ refusal_of c.kind_at-kind.ensures (to_z-of_z {w = w32} (fits h)) in
    rw is (ends_turned c.args.self.now.layout _ _ _ c.loop-i.invariant (is_called h) c.loop-i-test.true (sym (test h) ∙ c.if-not-allowed.true))

pub group_count-size-requires : goal.group_count-size-requires
group_count-size-requires c =
    let w = written_at c.args.self.now.layout _ _ (is_called (tested c)) c.loop-i-test.true (more c _ refl).before in
    omega (arith, plain_is c, w.small)

pub overflow_add-size : goal.overflow_add-size
overflow_add-size c = omega (arith, c.called.ensures, bytes_of-most c.plain.result)

pub loop-i-preserved : goal.loop-i-preserved
loop-i-preserved c = more (goal.at.loop-i-preserved c).After-plain _ c.group_count-size.ensures

pub returns-then-self-called : goal.returns-then-self-called
returns-then-self-called c =
    let all : c.loop-i.i ≡ length c.args.self.now.numbers.now = omega arith in
    ends_short c.args.self.now.layout _ _ _ c.loop-i.invariant (called_here (rw (← all) at c.called-2.ensures) (omega arith)) (omega arith)

pub returns : goal.returns
returns c =
    let all : c.loop-i.i ≡ length c.args.self.now.numbers.now = omega arith in
    ends_fine c.args.self.now.layout _ _ _ c.loop-i.invariant (called_none (rw (← all) at c.called-2.ensures) (omega arith)) (omega arith)
