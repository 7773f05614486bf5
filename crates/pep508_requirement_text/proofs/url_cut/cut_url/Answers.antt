use Rattle.pep508_error.specs.Cursors.{rest_of}
use Rattle.pep508_requirement_text.proofs.FrontParts.{url_placed}
use Rattle.pep508_requirement_text.proofs.url_cut.cut_url.Goals as goal

pub returns-clause-parts : goal.returns-clause-parts
returns-clause-parts c =
    url_placed c.args.brackets (rest_of c.args.start) c.rest.result.now c.split_url.result.0.now
    c.split_url.result.1.now (rest_of c.pass.result) c.rest.ensures c.split_url.ensures.whole
    c.pass.ensures.whole c.split_url.ensures.parts
