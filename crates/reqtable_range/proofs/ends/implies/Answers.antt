use Rattle.reqtable_range.proofs.Implying.{less_implies, greater_implies}
use Rattle.reqtable_range.proofs.ends.implies.Goals as goal

pub returns-in-LessThan-LessThan : goal.returns-in-LessThan-LessThan
returns-in-LessThan-LessThan c =
    less_implies c.args.one.now c.args.other.now c.version-version.result.now c.version-wanted.result.now
    c.version-version.ensures.version c.version-wanted.ensures.version c.in-LessThan-LessThan.ensures
    c.in-LessThan-LessThan.ensures' c.version-version.ensures.built c.version-wanted.ensures.built
    c.less_implies.result c.less_implies.ensures

pub returns-in-GreaterThan-GreaterThan : goal.returns-in-GreaterThan-GreaterThan
returns-in-GreaterThan-GreaterThan c =
    greater_implies c.args.one.now c.args.other.now c.version-version.result.now c.version-wanted.result.now
    c.version-version.ensures.version c.version-wanted.ensures.version c.in-GreaterThan-GreaterThan.ensures
    c.in-GreaterThan-GreaterThan.ensures' c.version-version.ensures.built c.version-wanted.ensures.built
    c.greater_implies.result c.greater_implies.ensures
