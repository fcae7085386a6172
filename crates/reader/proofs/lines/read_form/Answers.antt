use Rattle.reader.proofs.Named.{by_name}
use Rattle.reader.proofs.lines.read_form.Goals as goal

pub returns-in-Day : goal.returns-in-Day
returns-in-Day c = by_name _ _ _ _ c.in-Day.is c.read_day.ensures

pub returns-in-Steam : goal.returns-in-Steam
returns-in-Steam c = by_name _ _ _ _ c.in-Steam.is c.read_steam.ensures

pub returns-in-Ramp : goal.returns-in-Ramp
returns-in-Ramp c = by_name _ _ _ _ c.in-Ramp.is c.read_ramp.ensures

pub returns-in-Lake : goal.returns-in-Lake
returns-in-Lake c = by_name _ _ _ _ c.in-Lake.is c.read_lake.ensures

pub returns-in-Buyer : goal.returns-in-Buyer
returns-in-Buyer c = by_name _ _ _ _ c.in-Buyer.is c.read_buyer.ensures

pub returns-in-Out : goal.returns-in-Out
returns-in-Out c = by_name _ _ _ _ c.in-Out.is c.read_out.ensures

pub returns-in-Need : goal.returns-in-Need
returns-in-Need c = by_name _ _ _ _ c.in-Need.is c.read_need.ensures

pub returns-in-Price : goal.returns-in-Price
returns-in-Price c = by_name _ _ _ _ c.in-Price.is c.read_price.ensures

pub returns-in-Run : goal.returns-in-Run
returns-in-Run c = by_name _ _ _ _ c.in-Run.is c.read_run.ensures

pub returns-in-Mix : goal.returns-in-Mix
returns-in-Mix c = by_name _ _ _ _ c.in-Mix.is c.read_mix.ensures

pub returns-in-Supply : goal.returns-in-Supply
returns-in-Supply c = by_name _ _ _ _ c.in-Supply.is c.read_supply.ensures

pub returns-in-Show : goal.returns-in-Show
returns-in-Show c = by_name _ _ _ _ c.in-Show.is c.read_show.ensures

pub returns-in-Judge : goal.returns-in-Judge
returns-in-Judge c = by_name _ _ _ _ c.in-Judge.is c.read_judge.ensures
