use Rattle.std.proofs.Common.{◌<◌, ◌^◌, arith, rules}
use Rattle.xm_options.proofs.Numbers.{no_number}
use Rattle.xm_options.proofs.number.number_in.Goals as goal

pub returns-in-Err : goal.returns-in-Err
returns-in-Err c =
    let high : c.args.option.now.high < 2 ^ 64 = omega arith in
    no_number c.args.option.now c.args.text.now high (search rules) (search rules) c.in-Err.ensures.value.0
